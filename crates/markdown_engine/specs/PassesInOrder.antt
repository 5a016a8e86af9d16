-- Passes one after another.
use Rattle.std.specs.Prelude.{◌≡◌, List, [], ◌∷◌}
use Rattle.markdown_event.specs.declared.resolve.ResolveName.{ResolveName}
use Rattle.markdown_engine.specs.declared.tokenizer.Tokenizer.{Tokenizer}

-- with no pass registered
unfoldable pub unregistered : Tokenizer → Tokenizer
unregistered T = record T { resolvers = [] }

-- each of these passes may be called, whatever those before it leave
abbrev pub MayResolve : (ResolveName → Tokenizer → Type 0) → (ResolveName → Tokenizer → Tokenizer → Type 0) → List ResolveName → Tokenizer → Type 0
MayResolve may leaves [] T = Unit {0}
MayResolve may leaves (n ∷ ns) T = may n T × ((U : Tokenizer) → leaves n T U → MayResolve may leaves ns U)

-- these passes, one after another, leave U
abbrev pub Resolves : (ResolveName → Tokenizer → Tokenizer → Type 0) → List ResolveName → Tokenizer → Tokenizer → Type 0
Resolves leaves [] T U = U ≡ T
Resolves leaves (n ∷ ns) T U = (V : Tokenizer) × (leaves n T V × Resolves leaves ns V U)
