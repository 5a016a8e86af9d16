-- Which events tell nothing.
use Rattle.std.proofs.Common.{◌≡◌, ◌≢◌, ◌∙◌, ap, refl, ℕ, ◌+◌, ◌-◌, ◌<◌, ◌≤◌, Bool, false, if◌then◌else◌, List, [], ◌∷◌, drop, length, map, slice_get, get_or, arith, inl, inr, Option, None, Some}
use Rattle.std.specs.Option.{option_and_then, option_map, option_or}
use Rattle.std.specs.Str.{chars}
use Rattle.std.proofs.lemmas.Bool.{cases_lt, eq-eqb, ne_eqb}
use Rattle.std.proofs.lemmas.List.{drop_all, drop_more, get_or-drop, length-drop}
use Rattle.std.proofs.lemmas.Option.{slice_get_cases}
use Rattle.memchr.specs.Find.{Nowhere, Passes, is_byte}
use Rattle.markdown_event.specs.declared.event.Event.{Event}
use Rattle.markdown_event.specs.declared.event.Kind.{Kind}
use Rattle.markdown_event.specs.declared.event.Name.{Name}
use Rattle.markdown_html_model.specs.Resolved.{reference_ahead}
use Rattle.markdown_tree.specs.Nodes.{if_enter, node_of, own_exit}
use Rattle.markdown_tree.specs.Referred.{Given, first_inside, met, met_by}
use Rattle.markdown_tree.specs.declared.node.Node.{Node}
use Rattle.markdown_util.specs.declared.decoding.Decoding.{Decoding}
use Rattle.markdown_inline_c.specs.FlatEvents.{short_event}
use Rattle.markdown_inline_c.specs.References.{character_ahead, only}
use Rattle.markdown_inline_c.specs.ShortEvents.{AreAllTold, HasNone, LacksCharacters, LacksSign, TellNothing, character_by, character_of, may_tell, may_tell_by, may_tell_where, noted, told}
use Rattle.markdown_inline_c.proofs.MetDefinitions.{and-none, none_met}
use Rattle.markdown_inline_c.proofs.Noted.{none_noted, pass_nones, up-to}

-- By its name.

quiet-name : (g : Given) (es : List Event) (name : Name) (label : Node) → may_tell_by name ≡ false → met_by g es name label ≡ None
quiet-name g es Name.Link label h = grind arith
quiet-name g es Name.Image label h = grind arith
quiet-name g es Name.GfmFootnoteCall label h = grind arith
quiet-name g es name label h = refl

quiet-character : (how : Decoding) (bytes : List ℕ) (kind : Kind) (name : Name) (index : ℕ) → may_tell_where kind name ≡ false → character_by how bytes kind name index ≡ None
quiet-character how bytes Kind.Enter Name.CharacterReference index h = grind arith
quiet-character how bytes kind name index h = refl

-- What a node meets, by the event at which it begins.

abbrev met-node : Given → List Event → Node → Option ℕ
met-node g es node = option_and_then (met_by g es node.name) (first_inside es node)

quiet-node : (g : Given) (es : List Event) (n k : ℕ) (e : Event) (x : Option Event) → may_tell_by e.name ≡ false → option_and_then (met-node g es) (option_map (node_of n k e) x) ≡ None
quiet-node g es n k e None h = refl
quiet-node g es n k e (Some x) h = and-none (met_by g es e.name) (first_inside es (node_of n k e x)) (λ label. quiet-name g es e.name label h)

quiet-exit : (g : Given) (es : List Event) (n : ℕ) (e : Event) (exit : Option ℕ) → may_tell_by e.name ≡ false →
    option_and_then (met-node g es) (option_and_then (λ k. option_map (node_of n k e) (slice_get es k)) exit) ≡ None
quiet-exit g es n e None h = refl
quiet-exit g es n e (Some k) h = quiet-node g es n k e (slice_get es k) h

quiet-kind : (g : Given) (es : List Event) (n : ℕ) (e : Event) (kind : Kind) → may_tell_where kind e.name ≡ false →
    option_and_then (met-node g es) (option_and_then (λ k. option_map (node_of n k e) (slice_get es k)) (option_and_then (own_exit es) (if_enter kind n))) ≡ None
quiet-kind g es n e Kind.Enter h = quiet-exit g es n e (own_exit es n) h
quiet-kind g es n e Kind.Exit h = refl

pub quiet_met : (g : Given) (es : List Event) (n : ℕ) (e : Event) → slice_get es n ≡ Some e → may_tell e ≡ false → met g es n ≡ None
quiet_met g es n e at h =
    let by : Option Event → Option ℕ =
    λ o. option_and_then (met-node g es) (option_and_then (λ k. option_and_then (λ (x : Event). option_map (node_of n k x) (slice_get es k)) o) (option_and_then (own_exit es) (option_and_then (λ (x : Event). if_enter x.kind n) o))) in
    ap by at ∙ quiet-kind g es n e e.kind h

pub quiet_told : (g : Given) (how : Decoding) (es : List Event) (n : ℕ) (e : Event) → slice_get es n ≡ Some e → may_tell e ≡ false → told g how es n ≡ None
quiet_told g how es n e at h =
    ap (λ o. option_or o (option_and_then (character_of how g.bytes) (slice_get es n))) (quiet_met g es n e at h)
    ∙ ap (option_and_then (character_of how g.bytes)) at
    ∙ quiet-character how g.bytes e.kind e.name e.point.index h

-- Events that may not tell anything do not.

told-within : (g : Given) (how : Decoding) (es : List Event) (i j k : ℕ) → j ≤ length es → TellNothing es i j → i ≤ k → k < j → told g how es k ≡ None
told-within g how es i j k within none low high =
    elim (slice_get_cases es k).1 [
      | inl x ↦ quiet_told g how es k x.0 x.2 (none k x.0 low high x.2)
      | inr past ↦ absurd (omega (arith, within, high, past.0))
    ]

pub up_to_next : (g : Given) (how : Decoding) (es : List Event) (i j : ℕ) → i ≤ j → j ≤ length es → TellNothing es i j → up-to (told g how es) es i ≡ up-to (told g how es) es j
up_to_next g how es i j low within none = pass_nones (told g how es) es i j low within (λ k l u. told-within g how es i j k within none l u)

-- Where no `&` stands, no reference begins.

other-sign : (how : Decoding) (b : ℕ) (after : List ℕ) → b ≢ 38 → character_ahead how (b ∷ after) ≡ None
other-sign how b after h = ap (λ (t : Bool). if t then option_and_then (λ read. only (chars read.0)) (reference_ahead how after) else None) (ne_eqb b 38 h)

-- past bytes that are no `&`
pub past_others : (how : Decoding) (bytes : List ℕ) (at to : ℕ) → at ≤ to → to ≤ length bytes → ((i : ℕ) → i < at → character_ahead how (drop i bytes) ≡ None) →
    LacksSign bytes at to → (i : ℕ) → i < to → character_ahead how (drop i bytes) ≡ None
past_others how bytes at to low high before none i l =
    elim (cases_lt i at) [
      | inl less ↦ before i less
      | inr past ↦ ap (character_ahead how) (drop_more bytes i 0 (omega (arith, l, high))) ∙ other-sign how (get_or bytes i 0) (drop (i + 1) bytes) (none i past l)
    ]

-- past an `&` as well, which begins none
pub past_sign : (how : Decoding) (bytes : List ℕ) (at : ℕ) → ((i : ℕ) → i < at → character_ahead how (drop i bytes) ≡ None) → character_ahead how (drop at bytes) ≡ None →
    (i : ℕ) → i < at + 1 → character_ahead how (drop i bytes) ≡ None
past_sign how bytes at before here i l =
    elim (cases_lt i at) [
      | inl less ↦ before i less
      | inr past ↦ let e : i ≡ at = omega (arith, l, past) in ap (λ k. character_ahead how (drop k bytes)) e ∙ here
    ]

-- and there is none past the end
pub past_all : (how : Decoding) (bytes : List ℕ) (at : ℕ) → length bytes ≤ at → ((i : ℕ) → i < at → character_ahead how (drop i bytes) ≡ None) → LacksCharacters how bytes
past_all how bytes at end before i =
    elim (cases_lt i at) [
      | inl less ↦ before i less
      | inr past ↦ ap (character_ahead how) (drop_all i bytes (omega (arith, end, past)))
    ]

-- where no `&` is found behind a front
pub nowhere_behind : (bytes rest : List ℕ) (from before : ℕ) → rest ≡ drop from bytes → Nowhere (Passes (is_byte 38) rest) 0 before → LacksSign bytes from (from + before)
nowhere_behind bytes rest from before is none i low high e =
    let at : from + (i - from) ≡ i = omega (arith, low) in
    none (i - from) (omega arith) (omega (arith, low, high))
    (eq-eqb (get_or rest (i - from) 0) 38 (ap (λ xs. get_or xs (i - from) 0) is ∙ get_or-drop from bytes (i - from) 0 ∙ ap (λ k. get_or bytes k 0) at ∙ e))

pub nowhere_rest : (bytes rest : List ℕ) (from : ℕ) → rest ≡ drop from bytes → Nowhere (Passes (is_byte 38) rest) 0 (length rest) → LacksSign bytes from (length bytes)
nowhere_rest bytes rest from is none i low high =
    let len : length rest ≡ length bytes - from = ap length is ∙ length-drop from bytes in
    nowhere_behind bytes rest from (length rest) is none i low (omega (arith, high, low, len))

no-character : (how : Decoding) (bytes : List ℕ) (kind : Kind) (name : Name) (index : ℕ) → LacksCharacters how bytes → character_by how bytes kind name index ≡ None
no-character how bytes Kind.Enter Name.CharacterReference index h = h index
no-character how bytes kind name index h = refl

pub none_told : (g : Given) (how : Decoding) (es : List Event) (found : List (ℕ × ℕ)) → found ≡ [] → HasNone g → LacksCharacters how g.bytes → AreAllTold (told g how es) es found
none_told g how es found e none lacks =
    ap (λ xs. noted xs (map (short_event None) es)) e
    ∙ none_noted (told g how es) es (λ i l.
    ap (λ o. option_or o (option_and_then (character_of how g.bytes) (slice_get es i))) (none_met g es i none)
    ∙ and-none (character_of how g.bytes) (slice_get es i) (λ (x : Event). no-character how g.bytes x.kind x.name x.point.index lacks))
