-- The commands on uploads: why each is refused, and what it changes.
use Rattle.std.specs.Prelude.{ℕ, ◌==◌, Bool, true, false, not, ◌||◌, nat_lt, List, [], ◌∷◌, ◌++◌, Option, Some, None}
use Rattle.std.specs.List.{enumerate_from, filter_map, find, list_all, sum_by}
use Rattle.std.specs.Option.{option_map_or}
use Rattle.std.specs.Ordering.{match_ordering, nat_cmp}
use Rattle.mt_model.specs.Types.{Aborted, AccountPath, Area, Committed, Jobs, LARGEST_JOINED, Object, Open, PartRow, Public, Refusal, RootDirectory, Stage, Stor, Upload, UploadNotFound, UploadPart, UploadState, UploadTooLarge}
use Rattle.mt_types.specs.declared.object.Entry.TheVariants as entry
use Rattle.mt_model.specs.Names.{number_at}
use Rattle.mt_model.specs.Rows.{Rows, first_refusal, is_root, put_refusal, refuse_if, with_row}
use Rattle.mt_model.specs.State.{State, with_upload}

-- the area of jobs, which requests do not change
abbrev pub is_jobs : Area → Bool
is_jobs Stor = false
is_jobs Public = false
is_jobs Jobs = true

-- an upload takes parts at this stage
abbrev pub is_open : Stage → Bool
is_open Open = true
is_open Committed = false
is_open Aborted = false

-- an upload is for a path outside the area of jobs that is no root
abbrev pub new_upload_refusal : AccountPath → Option Refusal
new_upload_refusal p = refuse_if (is_jobs p.area || is_root p) RootDirectory

module _ {B : Type 0} where
  -- refused where the upload is not there or not open, and then as an upload is
  abbrev pub upload_refusal : Option (Upload B) → (Upload B → Option Refusal) → Option Refusal
  upload_refusal None refusal = Some UploadNotFound
  upload_refusal (Some u) refusal = first_refusal (refuse_if (not (is_open u.stage)) UploadState) (refusal u)

  -- an upload that was just begun
  abbrev pub new_upload : ℕ → AccountPath → List ℕ → ℕ → Upload B
  new_upload number p content_type moment =
      record { number = number; path = p; content_type = content_type; moment = moment; parts = []; stage = Open }

  -- a part, by its index, in the place of the one that stood there
  abbrev pub with_part : PartRow B → List (PartRow B) → List (PartRow B)
  with_part part [] = part ∷ []
  with_part part (p ∷ ps) = match_ordering (nat_cmp part.index p.index) (part ∷ p ∷ ps) (part ∷ ps) (p ∷ with_part part ps)

  -- the part of an index, if it is there
  abbrev pub part_at : List (PartRow B) → ℕ → Option (PartRow B)
  part_at parts index = find (λ p. p.index == index) parts

  -- the number listed at this place is that of the part of this index
  abbrev pub is_listed : List (PartRow B) → ℕ × ℕ → Bool
  is_listed parts l = option_map_or (λ p. p.number == l.1) (part_at parts l.0) false

  -- the parts that a commit lists
  abbrev pub listed : List (PartRow B) → List ℕ → List (PartRow B)
  listed parts numbers = filter_map (λ l. part_at parts l.0) (enumerate_from 0 numbers)

  -- each listed part has to be there, not too many bytes in all, and the path free for an object
  abbrev pub commit_upload_refusal : (B → ℕ) → Rows B → List ℕ → Upload B → Option Refusal
  commit_upload_refusal size rows numbers u =
      first_refusal (refuse_if (not (list_all (is_listed u.parts) (enumerate_from 0 numbers))) UploadPart)
      (first_refusal (refuse_if (nat_lt LARGEST_JOINED (sum_by (λ p. size p.body) (listed u.parts numbers))) UploadTooLarge)
      (put_refusal rows u.path))

  -- an upload that takes no more parts
  abbrev pub ended_as : Stage → Upload B → Upload B
  ended_as stage u = record u { parts = []; stage = stage }

  -- the object of an upload
  abbrev pub upload_object : ℕ → Upload B → B → ℕ → Object B
  upload_object number u body moment =
      record { number = number; body = body; content_type = u.content_type; durability = None; metadata = []; mtime = moment }

  -- with a new upload
  abbrev pub add_upload : State B → AccountPath → List ℕ → ℕ → State B
  add_upload s p content_type moment = record s { uploads = s.uploads ++ new_upload (number_at s.count 0) p content_type moment ∷ [] }

  -- with a part of an upload
  abbrev pub put_part : State B → ℕ → ℕ → B → State B
  put_part s upload index body =
      let part : PartRow B = record { index = index; number = number_at s.count 0; body = body } in
      record s { uploads = with_upload s.uploads upload (λ u. record u { parts = with_part part u.parts }) }

  -- with the object of an upload, which is committed; nothing is done where there is no upload
  abbrev pub commit_upload : State B → Option (Upload B) → B → ℕ → State B
  commit_upload s None body moment = s
  commit_upload s (Some u) body moment = record s {
    rows = with_row s.rows u.path (entry.Object (upload_object (number_at s.count 0) u body moment));
    uploads = with_upload s.uploads u.number (ended_as Committed);
  }
