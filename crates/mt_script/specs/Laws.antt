-- The whole names of a search are texts of paths.
use Rattle.std.specs.Prelude.{◌≡◌, ℕ, true, List, [], ◌∷◌, ◌++◌}
use Rattle.mt_path.specs.AccountPath.{AccountPath, path_text}
use Rattle.mt_page.specs.declared.row.PageRow.{PageRow}
use Rattle.mt_script.specs.Levels.{name_shown}

-- the path of a name below a directory
abbrev pub below : AccountPath → List ℕ → AccountPath
below dir name = record { area = dir.area; parts = dir.parts ++ name ∷ [] }

-- what a search shows at a row is the text of its path
abbrev pub NamesAreWhole : Type 0
NamesAreWhole = (login : List ℕ) (dir : AccountPath) (r : PageRow) → name_shown true (path_text login dir) r ≡ path_text login (below dir r.name)
