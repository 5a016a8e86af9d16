-- Which element of a string stands where.
use Rattle.std.proofs.Common.{◌≡◌, Bool, false, ◌||◌, List, ◌∷◌, Option, None, Some, refl, ap, arith}
use Rattle.std.proofs.Math.Bool.{and-false}
use Rattle.std.specs.Str.{byte}
use Rattle.markdown_content.specs.Codes.{Code, is_line_ending}
use Rattle.markdown_content.specs.Tree.{Forest}
use Rattle.markdown_content.specs.declared.parser.ParseState.{ParseState}
use Rattle.markdown_model.specs.CodeTests.{is_value, is_among}
use Rattle.markdown_model.specs.Elements.{as_plain, switched, line_ending, data_code, string_element}
use Rattle.markdown_model.specs.Grammar.{Reading, either, provided, ◌>>◌}
use Rattle.markdown_model.specs.LabelEnd.{Element, plain}
use Rattle.markdown_model.specs.LeafConstructs.{character_escape, character_reference}
use Rattle.markdown_model.specs.Setting.{Setting}
use Rattle.markdown_model.specs.TextLines.{code_leaf}
use Rattle.markdown_util.specs.Reference.{Table}
use Rattle.markdown_plan.specs.Plan.{tree_ops}
use Rattle.markdown_leaf.proofs.CharacterReferenceReadings.{no-reference}
use Rattle.markdown_model.proofs.GrammarSteps.{bind-none, either-second, either-some, one-other, switched-off, switched-on}
use Rattle.markdown_run_text.specs.RunSetting.{setting_of}
use Rattle.markdown_run_text.specs.StringContent.{string_markers}
use Rattle.markdown_run_text.proofs.TextElements.{plain_of, plain-switched, data-alone, ending-alone}

first-choice : (a b : Reading Element) (cs : List Code) (r : Option (Element × List Code)) → a cs ≡ r →
    either a b cs ≡ elim r [ None ↦ b cs | Some x ↦ Some x ]
unfolding either
first-choice a b cs r e = ap (λ (o : Option (Element × List Code)). elim o [ None ↦ b cs | Some x ↦ Some x ]) e

abbrev escapes : Setting → Reading Element
escapes s = switched s.options.constructs.character_escape (as_plain character_escape)

abbrev references : Setting → Reading Element
references s = switched s.options.constructs.character_reference (as_plain (character_reference s.references))

-- an escape
pub escaped-element : (s : Setting) (cs : List Code) (t : Forest) (rest : List Code) →
    (provided s.options.constructs.character_escape >> character_escape) cs ≡ Some (t, rest) →
    string_element s cs ≡ Some (plain t, rest)
unfolding string_element plain_of
escaped-element s cs t rest e = grind (arith, first-choice, plain-switched)

-- where no escape is
unescaped : (s : Setting) (cs : List Code) →
    (provided s.options.constructs.character_escape >> character_escape) cs ≡ None →
    string_element s cs ≡ either (references s) (either line_ending data_code) cs
unfolding string_element plain_of
unescaped s cs e = grind (arith, first-choice, plain-switched)

-- a reference
pub referenced-element : (s : Setting) (cs : List Code) (t : Forest) (rest : List Code) →
    (provided s.options.constructs.character_escape >> character_escape) cs ≡ None →
    (provided s.options.constructs.character_reference >> character_reference s.references) cs ≡ Some (t, rest) →
    string_element s cs ≡ Some (plain t, rest)
unfolding plain_of
referenced-element s cs t rest none e = grind (arith, unescaped, first-choice, plain-switched)

by-itself : (b : Bool) (c : Code) (cs : List Code) → is_line_ending c ≡ b →
    either line_ending data_code (c ∷ cs) ≡ Some (plain (code_leaf c), cs)
unfolding line_ending
by-itself b c cs e = grind (arith, either-some, ending-alone, either-second, bind-none, one-other, data-alone)

-- a code by itself: a line ending, or data
pub code-element : (c : Code) (cs : List Code) → either line_ending data_code (c ∷ cs) ≡ Some (plain (code_leaf c), cs)
code-element c cs = by-itself (is_line_ending c) c cs refl

-- where neither an escape nor a reference is
pub single-element : (s : Setting) (c : Code) (cs : List Code) →
    (provided s.options.constructs.character_escape >> character_escape) (c ∷ cs) ≡ None →
    (provided s.options.constructs.character_reference >> character_reference s.references) (c ∷ cs) ≡ None →
    string_element s (c ∷ cs) ≡ Some (plain (code_leaf c), cs)
unfolding plain_of
single-element s c cs none e = grind (arith, unescaped, first-choice, plain-switched, code-element)

-- no escape begins at another code than the backslash
pub no-backslash : (on : Bool) (c : Code) (cs : List Code) → is_value (byte "\\") c ≡ false →
    (provided on >> character_escape) (c ∷ cs) ≡ None
unfolding character_escape
no-backslash on c cs e = grind (arith, switched-off, switched-on, bind-none, one-other)

unread : (o : Option (Forest × List Code)) → tree_ops o ≡ None → o ≡ None
unread o e = grind arith

-- no reference begins at another code than `&`
pub no-ampersand : (names : Table) (on : Bool) (c : Code) (cs : List Code) → is_value (byte "&") c ≡ false →
    (provided on >> character_reference names) (c ∷ cs) ≡ None
no-ampersand names on c cs e = grind (arith, unread ((provided on >> character_reference names) (c ∷ cs)), no-reference names on (c ∷ cs), and-false on)

neither : (a b : Bool) → (a || (b || false)) ≡ false → (a ≡ false) × (b ≡ false)
neither a b e = grind arith

-- a code at which data does not stop
pub unmarked-element : (p : ParseState) (c : Code) (cs : List Code) → is_among string_markers c ≡ false →
    string_element (setting_of p) (c ∷ cs) ≡ Some (plain (code_leaf c), cs)
unmarked-element p c cs e = grind (arith, neither, single-element, no-backslash, no-ampersand)
