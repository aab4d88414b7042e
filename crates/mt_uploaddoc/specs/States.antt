-- How an upload stands: a JSON object (RFC 8259), its keys in the order of their bytes, without spaces.
use Rattle.std.specs.Prelude.{ℕ, List, codes, length}
use Rattle.serde_json.specs.Data.{Data, member, no_members, number, object, string, unsigned}
use Rattle.serde_json.specs.Written.{compact_text}
use Rattle.mt_ident.specs.Identifiers.{identifier_text}
use Rattle.mt_path.specs.AccountPath.{path_text}
use Rattle.mt_types.specs.declared.upload.Stage.{Stage}
use Rattle.mt_types.specs.declared.upload.Stage.TheVariants.{Aborted, Committed, Open}
use Rattle.mt_types.specs.declared.upload.Upload.{Upload}

abbrev pub stage_word : Stage → List ℕ
stage_word Open = codes "open"
stage_word Committed = codes "committed"
stage_word Aborted = codes "aborted"

module _ {B : Type 0} where
  -- its identifier, where its object is to stand, how many parts stand, and how far it has come
  unfoldable pub state_data : List ℕ → Upload B → Data
  state_data login u =
      object (member (codes "id") (string (identifier_text 4 u.number)) (member (codes "objectPath") (string (path_text login u.path))
      (member (codes "parts") (number (unsigned (length u.parts))) (member (codes "state") (string (stage_word u.stage)) no_members))))

  -- that as text
  abbrev pub state_text : List ℕ → Upload B → List ℕ
  state_text login u = compact_text (state_data login u)
