-- What the extensions, markers, containers and fences of the code are in the tree of blocks, and what its results say.
use Rattle.std.specs.Prelude.{◌≡◌, ℕ, true, false, List, [], ◌∷◌, ◌++◌, drop, Option, Some, None, MatchOption}
use Rattle.markdown_content.specs.Codes.{Code}
use Rattle.markdown_block_model.specs.BlockTree as model
use Rattle.markdown_block_line.specs.declared.containers.Marker.{Marker}
use Rattle.markdown_block_line.specs.declared.containers.Marker.TheVariants.{Bullet, Ordered}
use Rattle.markdown_block_line.specs.declared.containers.Container.{Container}
use Rattle.markdown_block_line.specs.declared.containers.Container.TheVariants.{Quote, Item}
use Rattle.markdown_block_line.specs.declared.extensions.Extensions.{Extensions}
use Rattle.markdown_block_line.specs.declared.starts.Fence.{Fence}

abbrev pub extensions_of : Extensions → model.Extensions
extensions_of x = record { tables = false; footnotes = false; math = x.math; front_matter = x.front_matter }

abbrev pub marker_of : Marker → model.Marker
marker_of (Bullet n) = model.bullet n
marker_of (Ordered n number) = model.ordered n number

abbrev pub container_of : Container → model.Container
container_of Quote = model.quote
container_of (Item m columns) = model.item (marker_of m) columns

abbrev pub fence_of : Fence → model.Fence
fence_of f = record { value = f.value; count = f.count; columns = f.columns }

-- a result says what is found, or that nothing is
abbrev pub Says : {A B : Type 0} → Option B → (B → A) → Option A → Type 0
Says result means found = MatchOption result (found ≡ None) (λ b. found ≡ Some (means b))

-- fenced code with a further line, of which so many codes are no code, or which ends it
abbrev pub fenced_with : Option ℕ → model.Fence → List Code → List (List Code) → List Code → model.Leaf
fenced_with None f info ls cs = model.fenced_code f info ls true
fenced_with (Some k) f info ls cs = model.fenced_code f info (ls ++ drop k cs ∷ []) false
