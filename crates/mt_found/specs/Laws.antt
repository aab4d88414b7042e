-- A search writes each row below its path.
use Rattle.std.specs.Prelude.{◌≡◌, ◌↔◌, ℕ, ◌≤◌, true, List, [], ◌∷◌, length, codes, None}
use Rattle.std.specs.List.{AllByRecursion}
use Rattle.mt_base.specs.Lists.{IsPrefixOf}
use Rattle.mt_path.specs.AccountPath.{AccountPath, IsUnder, root_of}
use Rattle.mt_path.specs.declared.area.Area.TheVariants.{Stor}
use Rattle.mt_types.specs.declared.object.Entry.TheVariants as entry
use Rattle.mt_types.specs.declared.object.Object.{Object}
use Rattle.mt_types.specs.declared.limits.TheConstants.{MOST_COMMANDS}
use Rattle.mt_model.specs.Keeping.{KeepsLimits}
use Rattle.mt_model.specs.Lawful.{Lawful}
use Rattle.mt_model.specs.Rows.{Rows, at, is_directory}
use Rattle.mt_model.specs.State.{State}
use Rattle.mt_ask.specs.Words.{IsWords}
use Rattle.mt_ask.specs.declared.ask.Ask.TheVariants as asks
use Rattle.mt_ask.specs.declared.ask.Words.{Words}
use Rattle.mt_page.specs.Laws.{HasSize}
use Rattle.mt_response.specs.Replies.{Answered}
use Rattle.mt_script.specs.Levels.{Listed}
use Rattle.mt_script.specs.Script.{listed_by}
use Rattle.mt_found.specs.Found.{EndsBy, IsPageOver, IsSearchable, IsStoreAnswer, PlaysReplies, is_below, lines_of, rows_below}

-- over the pages of rows a search that came to its end has written the lines of all of them that are below its path, each once, in their order
abbrev pub FindListsAll : Type 0 → Type 0
FindListsAll B = (size : B → ℕ) (rows : Rows B) (w : Words) (p : AccountPath) (replies : List Answered) (written : List ℕ) → w.ask ≡ asks.Find p → IsSearchable size p rows
    → PlaysReplies (IsPageOver size rows) w (listed_by w.ask) replies [] written → written ≡ lines_of w.login (rows_below rows p)

-- and one that didn't a front of them
abbrev pub FindListsFront : Type 0 → Type 0
FindListsFront B = (size : B → ℕ) (rows : Rows B) (w : Words) (p : AccountPath) (replies : List Answered) (left : List Listed) (written : List ℕ) → w.ask ≡ asks.Find p → IsSearchable size p rows
    → PlaysReplies (IsPageOver size rows) w (listed_by w.ask) replies left written → IsPrefixOf written (lines_of w.login (rows_below rows p))

-- each comes to its end
abbrev pub FindEnds : Type 0 → Type 0
FindEnds B = (size : B → ℕ) (rows : Rows B) (w : Words) (p : AccountPath) → w.ask ≡ asks.Find p → IsSearchable size p rows → EndsBy (IsPageOver size rows) w (rows_below rows p)

abbrev pub worked_object : Object ℕ
worked_object = record { number = 1; body = 0; content_type = codes "text/plain"; durability = None; metadata = []; mtime = 0 }

-- of a directory `a` with an object `x`, and an object `a.b`, which stands behind all of `a`
abbrev pub worked_rows : Rows ℕ
worked_rows = (root_of Stor, entry.Directory 0) ∷ (record { area = Stor; parts = codes "a" ∷ [] }, entry.Directory 0)
    ∷ (record { area = Stor; parts = codes "a" ∷ codes "x" ∷ [] }, entry.Object worked_object) ∷ (record { area = Stor; parts = codes "a.b" ∷ [] }, entry.Object worked_object) ∷ []

abbrev pub FoundWorked : Type 0
FoundWorked = lines_of (codes "l") (rows_below worked_rows (root_of Stor)) ≡ codes "/l/stor/a\n/l/stor/a/x\n/l/stor/a.b\n"

-- the rows below a path are told by the relation of paths
abbrev pub BelowIsUnder : Type 0
BelowIsUnder = (d p : AccountPath) → (is_below d p ≡ true) ↔ IsUnder p d

-- the rows of a lawful state within its limits can be searched, from each path on
abbrev pub LawfulIsSearchable : Type 0 → Type 0
LawfulIsSearchable B = (size : B → ℕ) (s : State B) (p : AccountPath) → Lawful s → KeepsLimits s → s.count ≤ MOST_COMMANDS → AllByRecursion (λ r. HasSize size r.1) s.rows → IsSearchable size p s.rows

-- a search of words over a store in a lawful state within its limits, from a directory on
pub record Searches (s : State (List ℕ)) (w : Words) (p : AccountPath) : Type 0 where
  pub words : IsWords w
  pub asks : w.ask ≡ asks.Find p
  pub lawful : Lawful s
  pub limits : KeepsLimits s
  pub few : s.count ≤ MOST_COMMANDS
  pub sizes : AllByRecursion (λ r. HasSize length r.1) s.rows
  pub directory : is_directory (at s.rows p) ≡ true

-- by the store's own answers, all in this state, it has written the lines of all rows below its path where it came to its end
abbrev pub FindOverTheStore : Type 0
FindOverTheStore = (s : State (List ℕ)) (w : Words) (p : AccountPath) (replies : List Answered) (written : List ℕ) → Searches s w p
    → PlaysReplies (IsStoreAnswer s w) w (listed_by w.ask) replies [] written → written ≡ lines_of w.login (rows_below s.rows p)

-- and a front of them where it didn't
abbrev pub FindFrontOverTheStore : Type 0
FindFrontOverTheStore = (s : State (List ℕ)) (w : Words) (p : AccountPath) (replies : List Answered) (left : List Listed) (written : List ℕ) → Searches s w p
    → PlaysReplies (IsStoreAnswer s w) w (listed_by w.ask) replies left written → IsPrefixOf written (lines_of w.login (rows_below s.rows p))

-- and it comes to its end
abbrev pub FindEndsOverTheStore : Type 0
FindEndsOverTheStore = (s : State (List ℕ)) (w : Words) (p : AccountPath) → Searches s w p → EndsBy (IsStoreAnswer s w) w (rows_below s.rows p)
