-- No number of a line is a float.
use Rattle.std.proofs.Common.{◌≡◌, ℕ, List, refl, false}
use Rattle.serde_json.specs.Written.{has_float}
use Rattle.mt_types.specs.declared.object.Entry.{Entry}
use Rattle.mt_types.specs.declared.object.Entry.TheVariants as entry
use Rattle.mt_live.specs.LiveTexts.{directory_data, line_data, object_data}

pub line_plain : {B : Type 0} (size : B → ℕ) (name : List ℕ) (e : Entry B) → has_float (line_data size name e) ≡ false
unfolding directory_data object_data
line_plain size name (entry.Directory mtime) = refl
line_plain size name (entry.Object o) = refl

pub directory_plain : (name : List ℕ) (mtime : ℕ) → has_float (directory_data name mtime) ≡ false
unfolding directory_data
directory_plain name mtime = refl
