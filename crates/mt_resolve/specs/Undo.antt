-- Changes of rows, and the way back.
use Rattle.std.specs.Prelude.{◌≡◌, ⊤, List, [], ◌∷◌, reverse, Option, Some, None}
use Rattle.mt_path.specs.AccountPath.{AccountPath}
use Rattle.mt_types.specs.declared.object.Entry.TheVariants as entry
use Rattle.mt_types.specs.declared.object.Object.{Object}
use Rattle.mt_model.specs.Rows.{Rows, put_refusal, remove_refusal, with_row, without_row}
use Rattle.mt_resolve.specs.declared.undo.Undo.{Undo}

module _ {B : Type 0} where
  -- a path gets back the object that stood there, or nothing
  abbrev pub row_back : Rows B → AccountPath → Option (Object B) → Rows B
  row_back rows p None = without_row rows p
  row_back rows p (Some object) = with_row rows p (entry.Object object)

  -- one change is taken back
  abbrev pub one_back : Undo B → Rows B → Rows B
  one_back u rows = row_back rows u.path u.was

  -- changes are taken back, the first of the list first
  abbrev pub all_back : List (Undo B) → Rows B → Rows B
  all_back [] rows = rows
  all_back (u ∷ us) rows = all_back us (one_back u rows)

  -- the tree takes a path back
  abbrev pub MayRowBack : Rows B → AccountPath → Option (Object B) → Type 0
  MayRowBack rows p None = remove_refusal rows p ≡ None
  MayRowBack rows p (Some object) = put_refusal rows p ≡ None

  -- the tree takes one change back
  abbrev pub MayOneBack : Undo B → Rows B → Type 0
  MayOneBack u rows = MayRowBack rows u.path u.was

  -- it takes all of them back, the first of the list first
  abbrev pub MayAllBack : List (Undo B) → Rows B → Type 0
  MayAllBack [] rows = ⊤
  MayAllBack (u ∷ us) rows = MayOneBack u rows × MayAllBack us (one_back u rows)

  -- the changes, taken back from the last to the first, lead from these rows to where they began
  pub record LeadsBack (changes : List (Undo B)) (rows start : Rows B) : Type 0 where
    pub may : MayAllBack (reverse changes) rows
    pub back : all_back (reverse changes) rows ≡ start

  -- whatever the changes before led back to, those after do
  abbrev pub StaysBack : List (Undo B) → Rows B → List (Undo B) → Rows B → Type 0
  StaysBack old before new after = (start : Rows B) → LeadsBack old before start → LeadsBack new after start
