-- leaves that may be linked
use Rattle.std.proofs.Common.{◌≡◌, Bool, Option, refl, ap}
use Rattle.markdown_engine.specs.Operations.{IsOpen}
use Rattle.markdown_engine.specs.PastTree.{entered_leaf}
use Rattle.markdown_engine.specs.Weights.{codes_left, left_at}
use Rattle.markdown_event.specs.declared.event.Content.{Content}
use Rattle.markdown_event.specs.declared.event.Name.{Name}
use Rattle.markdown_engine.specs.declared.tokenizer.Tokenizer.{Tokenizer}
use Rattle.markdown_engine.proofs.TreeEvents.{entered_leaf-is}

-- entering a leaf changes neither the place nor the scratch fields
pub entered-cursor : (n : Name) (link : Option Content) (connect : Bool) (T : Tokenizer) →
    (entered_leaf n link connect T).cursor ≡ T.cursor
entered-cursor n link connect T = ap (λ (x : Tokenizer). x.cursor) (entered_leaf-is n link connect T)

pub entered-attempts : (n : Name) (link : Option Content) (connect : Bool) (T : Tokenizer) →
    (entered_leaf n link connect T).attempts ≡ T.attempts
entered-attempts n link connect T = ap (λ (x : Tokenizer). x.attempts) (entered_leaf-is n link connect T)

pub entered-open : (n : Name) (link : Option Content) (connect : Bool) (T : Tokenizer) →
    IsOpen n (entered_leaf n link connect T)
entered-open n link connect T = rw (entered_leaf-is n link connect T) refl

pub entered-left : (n : Name) (link : Option Content) (connect : Bool) (T : Tokenizer) →
    codes_left (entered_leaf n link connect T) ≡ codes_left T
entered-left n link connect T = ap left_at (entered-cursor n link connect T)
