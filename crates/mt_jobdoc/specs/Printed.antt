-- The phases of a document, as they are shown.
use Rattle.std.specs.Prelude.{ℕ, List, codes, map, Option, Some, None}
use Rattle.serde_json.specs.Data.{Data, string, array, object, number, unsigned, Members, member, no_members}
use Rattle.serde_json.specs.View.{items_of}
use Rattle.mt_path.specs.AccountPath.{AccountPath, path_text}
use Rattle.mt_types.specs.declared.document.PhaseKind.{PhaseKind}
use Rattle.mt_types.specs.declared.document.PhaseKind.TheVariants.{Map, Reduce}
use Rattle.mt_types.specs.declared.document.Phase.{Phase}
use Rattle.mt_types.specs.declared.document.JobDocument.{JobDocument}

-- the names of assets
abbrev pub assets_data : List ℕ → List AccountPath → Data
assets_data login assets = array (items_of (map (λ p. string (path_text login p)) assets))

-- the number of reducers stands where there are reducers
abbrev pub with_count : PhaseKind → Members → Members
with_count Map rest = rest
with_count (Reduce count) rest = member (codes "count") (number (unsigned count)) rest

-- a command line that is run before stands where there is one
abbrev pub with_init : Option (List ℕ) → Members → Members
with_init None rest = rest
with_init (Some init) rest = member (codes "init") (string init) rest

abbrev pub type_name : PhaseKind → List ℕ
type_name Map = codes "map"
type_name (Reduce count) = codes "reduce"

-- a phase, its keys in the order of their bytes
unfoldable pub phase_data : List ℕ → Phase → Data
phase_data login p =
    object (member (codes "assets") (assets_data login p.assets)
    (with_count p.kind (member (codes "exec") (string p.exec)
    (with_init p.init (member (codes "type") (string (type_name p.kind)) no_members)))))

-- the phases of a document
unfoldable pub phases_data : List ℕ → JobDocument → Data
phases_data login d = array (items_of (map (phase_data login) d.phases))
