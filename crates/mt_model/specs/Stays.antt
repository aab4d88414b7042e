-- What stays, whatever well made and allowed commands follow: outputs, archives, numbers of objects, names.
use Rattle.std.specs.Prelude.{◌≡◌, ◌≢◌, ℕ, ◌*◌, ◌<◌, Bool, true, false, IsSome, List, [], ◌∷◌, Some}
use Rattle.std.specs.List.{Contains, list_any}
use Rattle.mt_model.specs.Types.{AccountPath, Command, Delete, Item, Job, Jobs, Link, NUMBERS_A_COMMAND, Object, TraceEntry}
use Rattle.mt_model.specs.CommandStep.{replay}
use Rattle.mt_model.specs.Feed.{items_of}
use Rattle.mt_model.specs.Lawful.{Lawful}
use Rattle.mt_model.specs.Laws.{TakenFrom}
use Rattle.mt_model.specs.Names.{ends_in_output, output_path}
use Rattle.mt_model.specs.Resolve.{HasBodyAt}
use Rattle.mt_model.specs.Rows.{Rows, at, is_path, object_at}
use Rattle.mt_model.specs.State.{State, first_state}

-- a name in the folder of a job
abbrev pub archive_path : List ℕ → List ℕ → AccountPath
archive_path id name = record { area = Jobs; parts = id ∷ name ∷ [] }

module _ {B : Type 0} where
  -- no object of this number stands at a path
  abbrev pub LacksNumber : ℕ → AccountPath → Rows B → Type 0
  LacksNumber n p rows = (o : Object B) → object_at rows p ≡ Some o → o.number ≢ n

  -- a command puts a link at a path
  abbrev pub links_at : AccountPath → Command B → Bool
  links_at p (Link path source moment) = is_path path p
  links_at p other = false

  -- a command removes what stands at a path
  abbrev pub deletes_at : AccountPath → Command B → Bool
  deletes_at p (Delete path moment) = is_path path p
  deletes_at p other = false

module _ {B : Type 0} (size : B → ℕ) where
  -- an object at the path of an output without a place stays
  abbrev pub OutputsStay : Type 0
  OutputsStay = (h more : List (Command B)) → TakenFrom size first_state h → TakenFrom size (replay first_state h) more → (id name : List ℕ) (o : Object B) → ends_in_output name ≡ true
      → object_at (replay first_state h).rows (output_path id name) ≡ Some o → object_at (replay (replay first_state h) more).rows (output_path id name) ≡ Some o

  -- each output of a committed task that has such a path has its body there
  abbrev pub OutputsHaveBodies : Type 0
  OutputsHaveBodies = (h : List (Command B)) → TakenFrom size first_state h → (job : Job B) (e : TraceEntry B) (i : Item B)
      → Contains (replay first_state h).jobs job → Contains job.trace e → Contains (items_of e.outcome) i → (id name : List ℕ) → ends_in_output name ≡ true → i.name ≡ output_path id name
      → HasBodyAt (replay first_state h).rows i.name i.body

  -- an object of an archive stays
  abbrev pub ArchivesStay : Type 0
  ArchivesStay = (s : State B) (cs : List (Command B)) → Lawful s → TakenFrom size s cs → (id name : List ℕ) (o : Object B)
      → object_at s.rows (archive_path id name) ≡ Some o → object_at (replay s cs).rows (archive_path id name) ≡ Some o

  -- a number that is none of the next ones, and that is not at a path, comes there by a link alone
  abbrev pub TagsGoForGood : Type 0
  TagsGoForGood = (s : State B) (cs : List (Command B)) (n : ℕ) (p : AccountPath) → Lawful s → TakenFrom size s cs → n < s.count * NUMBERS_A_COMMAND
      → LacksNumber n p s.rows → list_any (links_at p) cs ≡ false → LacksNumber n p (replay s cs).rows

  -- objects of one number have one body, wherever and whenever they stand
  abbrev pub TagsAreStrong : Type 0
  TagsAreStrong = (h more : List (Command B)) → TakenFrom size first_state h → TakenFrom size (replay first_state h) more → (p q : AccountPath) (o x : Object B)
      → object_at (replay first_state h).rows p ≡ Some o → object_at (replay (replay first_state h) more).rows q ≡ Some x → o.number ≡ x.number → o.body ≡ x.body

  -- where something stands, something stands until it is removed
  abbrev pub StaysTaken : Type 0
  StaysTaken = (s : State B) (cs : List (Command B)) (p : AccountPath) → Lawful s → TakenFrom size s cs → list_any (deletes_at p) cs ≡ false → IsSome (at s.rows p) → IsSome (at (replay s cs).rows p)
