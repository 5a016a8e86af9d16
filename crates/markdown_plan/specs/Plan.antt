-- How a run from the middle of a construct ends: by the operations that the codes still to come ask for.
--
-- A plan, as in planning: operations in their order that lead from a state to a goal, found by looking ahead. (`Script` is taken, by
-- deferred edits, and a `Reading` gives a value and the codes after it.)
use Rattle.std.specs.Prelude.{◌≡◌, ℕ, Bool, true, false, List, [], ◌∷◌, ◌++◌, Option, Some, None}
use Rattle.markdown_content.specs.Codes.{Code}
use Rattle.markdown_engine.specs.FailedRun.{Grown}
use Rattle.markdown_engine.specs.Operations.{Op, ahead, done, op_depth, scratched}
use Rattle.markdown_engine.specs.PastTree.{TreeReading}
use Rattle.markdown_content.specs.Tree.{Forest}
use Rattle.markdown_engine.specs.TreeOps.{ops_of}
use Rattle.markdown_engine.specs.declared.tokenizer.TokenizeState.{TokenizeState}
use Rattle.markdown_engine.specs.declared.tokenizer.Tokenizer.{Tokenizer}

-- the operations that pass what is to come of a construct; none where it does not hold
abbrev pub Plan : Type 0
Plan = List Code → Option (List Op)

-- these operations, and then those of a plan
abbrev pub preceded : List Op → Option (List Op) → Option (List Op)
preceded os None = None
preceded os (Some more) = Some (os ++ more)

-- the operations of the tree that a reading gives
abbrev pub tree_ops : Option (Forest × List Code) → Option (List Op)
tree_ops None = None
tree_ops (Some r) = Some (ops_of r.0)

abbrev pub plan_of : TreeReading → Plan
plan_of reading cs = tree_ops (reading cs)

-- of d events that stood open before, how many are open after these operations
abbrev pub depth_after : ℕ → List Op → ℕ
depth_after d [] = d
depth_after d (o ∷ os) = depth_after (op_depth d o) os

-- the plan holds at the codes from T on, and U is T after its operations, with these scratch fields
pub record DoesPlan (plan : Plan) (s : TokenizeState) (T U : Tokenizer) : Type 0 where
  pub ops : List Op
  pub holds : plan (ahead T) ≡ Some ops
  pub left : U ≡ done ops (scratched s T)

-- it does not hold, and U has only grown from T, but for d events that stood open, with these scratch fields
pub record Stops (d : ℕ) (plan : Plan) (s : TokenizeState) (T U : Tokenizer) : Type 0 where
  pub none : plan (ahead T) ≡ None
  pub grown : Grown d T U
  pub scratch : U.tokenize_state ≡ s

-- a run that ends as the plan says
abbrev pub DoesAs : ℕ → Plan → TokenizeState → Tokenizer → Bool → Tokenizer → Type 0
DoesAs d plan s T true U = DoesPlan plan s T U
DoesAs d plan s T false U = Stops d plan s T U

-- and the scratch fields are as they were in T
abbrev pub KeepsAs : ℕ → Plan → Tokenizer → Bool → Tokenizer → Type 0
KeepsAs d plan T ok U = DoesAs d plan T.tokenize_state T ok U
