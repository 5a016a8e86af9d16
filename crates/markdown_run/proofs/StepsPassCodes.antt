-- How many codes a step passes.
use Rattle.std.proofs.Common.{◌≡◌, ℕ, Bool, if◌then◌else◌, Option, refl, arith}
use Rattle.markdown_event.specs.declared.state.StateName.TheVariants as H
use Rattle.markdown_engine.specs.declared.tokenizer.Tokenizer.{Tokenizer}
use Rattle.markdown_engine.specs.StateRuns.{Stepped}
use Rattle.markdown_engine.specs.Operations.{current_of, applied, attempted, scratched, registered, registered_before}
use Rattle.markdown_leaf_gfm.specs.GfmAutolinkLiteral.{prefix_at, path_at}
use Rattle.markdown_plan.specs.LateNames.{renamed}
use Rattle.markdown_leaf.specs.Autolink.{email_label_at}
use Rattle.markdown_run.specs.Layer.{ready_of, step_of}
use Rattle.markdown_run.specs.StepMoves.{PassesCodes, StepsPassCodes}

-- a choice of three
by-tests : (T : Tokenizer) (a b : Bool) (x y z : Stepped) → PassesCodes T x → PassesCodes T y → PassesCodes T z → PassesCodes T (if a then x else (if b then y else z))
by-tests T a b x y z h k l = grind arith

prefix-passes : (T : Tokenizer) (o : Option ℕ) → current_of T ≡ o → PassesCodes T (prefix_at o T)
unfolding applied scratched
prefix-passes T o e = grind (arith, by-tests)

path-passes : (T : Tokenizer) (o : Option ℕ) → current_of T ≡ o → PassesCodes T (path_at o T)
unfolding applied scratched attempted
path-passes T o e = grind (arith, by-tests)

label-passes : (T : Tokenizer) (o : Option ℕ) → current_of T ≡ o → PassesCodes T (email_label_at o T)
unfolding applied scratched renamed
label-passes T o e = grind (arith, by-tests)

raw-passes : (T : Tokenizer) → ready_of H.DestinationRaw T → PassesCodes T (step_of H.DestinationRaw T)
unfolding applied scratched
raw-passes T r = grind arith

close-passes : (T : Tokenizer) → ready_of H.RawTextSequenceClose T → PassesCodes T (step_of H.RawTextSequenceClose T)
unfolding applied scratched renamed
close-passes T r = grind arith

pub steps_pass_codes : StepsPassCodes
unfolding applied attempted scratched registered registered_before
steps_pass_codes H.GfmAutolinkLiteralProtocolPrefixInside T r = prefix-passes T (current_of T) refl
steps_pass_codes H.GfmAutolinkLiteralPathInside T r = path-passes T (current_of T) refl
steps_pass_codes H.AutolinkEmailLabel T r = label-passes T (current_of T) refl
steps_pass_codes H.RawTextSequenceClose T r = close-passes T r
steps_pass_codes H.DestinationRaw T r = raw-passes T r
steps_pass_codes _ T r = grind arith
