-- Pieces of the parts that are added to a run one after another, and each end of it.
use Rattle.std.proofs.Common.{◌≡◌, ◌≢◌, ◌<◌, ◌≤◌, ℕ, zero, suc, ◌+◌, ◌-◌, ◌*◌, ◌/◌, true, if◌then◌else◌, List, [], ◌∷◌, ◌++◌, length, Option, refl, sym, ◌∙◌, ap, subst, arith, length-append, append_assoc, append-nil}
use Rattle.std.specs.Prelude.{IsTrue, ◌==◌, nat_le}
use Rattle.std.specs.Option.{ForSome}
use Rattle.std.proofs.lemmas.Bool.Decides.{nat_tests}
use Rattle.md5.specs.Md5.{Holds, md5}
use Rattle.md5.specs.declared.Md5.{Md5}
use Rattle.mt_disk.specs.Files.{Files}
use Rattle.mt_log.specs.LogState.{LogState, told}
use Rattle.mt_log.specs.RunState.{HasTaken, RunState}
use Rattle.mt_log.proofs.Running.{run_end}
use Rattle.mt_types.specs.Limits.{is_placed}
use Rattle.mt_types.specs.declared.body.Body.{Body}
use Rattle.mt_types.specs.declared.upload.PartRow.{PartRow}
use Rattle.mt_body.specs.Stored.{IsCut, pieces_size, pieces_that_fit}
use Rattle.mt_body.specs.Storing.{StandsBehind, TakesMore}
use Rattle.mt_body.proofs.Cuts.{cut_none, cut_push, split_len}
use Rattle.mt_body.proofs.Keeping.{new_body}
use Rattle.mt_join.specs.Filling.{rest, rest_len}
use Rattle.mt_join.specs.Joining.{Front, Joins, WholeIs, joined, joined_len}
use Rattle.mt_join.specs.declared.fill.Cursor.{Cursor}
use Rattle.mt_join.specs.declared.pieces.Joining.{Joining}
use Rattle.mt_join.specs.declared.pieces.Joining.TheVariants as joining
use Rattle.mt_join.proofs.Fillings.{rest_none}

if_over : (a b x y : ℕ) → b < a → (if nat_le a b then x else y) ≡ y
if_over a b x y is = grind (arith, nat_tests, is)

-- so many full pieces have room, and one more piece hasn't
fit_some : (limit next k c n : ℕ) → 0 < c → c ≤ 65536 → 65536 * k + c ≤ n → (0 < k → next + 65558 * k + 1 ≤ limit) → limit < next + 65558 * k + 22 + c + 1 → 65558 * k ≡ pieces_that_fit limit (next + 1) n
fit_some limit next k c n some most all fits full =
    sym (if_over (next + 1 + pieces_size n) limit (pieces_size n) (65558 * ((limit - (next + 1)) / 65558)) (omega (arith, full, some, most, all)) ∙ by k fits full)
  where
    by : (k : ℕ) → (0 < k → next + 65558 * k + 1 ≤ limit) → limit < next + 65558 * k + 22 + c + 1 → 65558 * ((limit - (next + 1)) / 65558) ≡ 65558 * k
    by zero fits full = omega (arith, full, most)
    by (suc k) fits full = omega (arith, fits (omega arith), full, most)

-- pieces of all bytes before the cursor are in the run, and these are their number and the place of the first
pub record Begun (parts : List (PartRow Body)) (c : Cursor) (sum : Md5) (seen seen' : Option Files) (log : LogState) (run run' : RunState) (total first : ℕ) : Type 0 where
  pub bytes : List ℕ
  pub are : ForSome (told seen) (λ ps. joined ps parts ≡ bytes ++ rest ps parts c)
  pub size : joined_len parts ≡ length bytes + rest_len parts c
  pub digested : Holds sum bytes
  pub pieces : List (List ℕ)
  pub cut : IsCut pieces bytes
  pub taken : TakesMore seen log run pieces seen' run'
  pub next : run'.next ≡ run.next + pieces_size (length bytes)
  pub fits : 0 < length bytes → run'.next + 1 ≤ log.limit
  pub total_is : total ≡ length bytes
  pub none : total ≡ 0 → first ≡ 0
  pub some : 0 < total → first ≡ run.next

-- no byte was read yet
pub begun_none : (parts : List (PartRow Body)) (sum : Md5) (seen : Option Files) (log : LogState) (run : RunState) → Holds sum []
    → (b : Begun parts (record { next = 0; at = 0 }) sum seen seen log run run 0 0) × (length b.bytes ≡ 65536 * length b.pieces)
begun_none parts sum seen log run fresh = (
  record {
    bytes = [];
    are = λ ps is. refl;
    size = omega arith;
    digested = fresh;
    pieces = [];
    cut = cut_none;
    taken = λ records had. subst (λ l. HasTaken seen log run l) (sym (append-nil records)) had;
    next = omega arith;
    fits = λ some. absurd (omega (arith, some));
    total_is = refl;
    none = λ is. refl;
    some = λ some. absurd (omega (arith, some));
  },
  omega arith,
)

module _ (parts : List (PartRow Body)) (c : Cursor) (sum : Md5) (s t : Option Files) (log : LogState) (r0 r1 : RunState) (total first : ℕ) (b : Begun parts c sum s t log r0 r1 total first) where
  -- one piece more
  pub begun_more : (c' : Cursor) (sum' : Md5) (u : Option Files) (r2 : RunState) (full : length b.bytes ≡ 65536 * length b.pieces) (piece : List ℕ) (total' first' : ℕ) → 0 < length piece → length piece ≤ 65536
      → ForSome (told s) (λ ps. rest ps parts c ≡ piece ++ rest ps parts c') → rest_len parts c ≡ length piece + rest_len parts c' → Holds sum' (b.bytes ++ piece)
      → ((records : List (List ℕ)) → HasTaken t log r1 records → HasTaken u log r2 (records ++ (0 ∷ piece) ∷ [])) → r2.next ≡ r1.next + 21 + length (0 ∷ piece) → r2.next + 1 ≤ log.limit
      → total' ≡ total + length piece → (total ≡ 0 → first' ≡ r1.next) → (0 < total → first' ≡ first)
      → (m : Begun parts c' sum' s u log r0 r2 total' first') × (length piece ≡ 65536 → length m.bytes ≡ 65536 * length m.pieces)
  begun_more c' sum' u r2 full piece total' first' some most are len digested taken next fits total_is none more =
      let size = length-append b.bytes piece in (
        record {
          bytes = b.bytes ++ piece;
          are = λ ps is. b.are ps is ∙ ap (λ l. b.bytes ++ l) (are ps is) ∙ sym (append_assoc b.bytes piece (rest ps parts c'));
          size = omega (arith, b.size, len, size);
          digested = digested;
          pieces = b.pieces ++ (0 ∷ piece) ∷ [];
          cut = cut_push b.pieces b.bytes piece some most full b.cut;
          taken = λ records had. subst (λ x. HasTaken u log r2 x) (append_assoc records b.pieces ((0 ∷ piece) ∷ [])) (taken (records ++ b.pieces) (b.taken records had));
          next = omega (arith, next, b.next, size, full, some, most);
          fits = λ any. fits;
          total_is = omega (arith, total_is, b.total_is, size);
          none = λ is. absurd (omega (arith, is, total_is, some));
          some = λ any. split_len total (λ is. none is ∙ omega (arith, b.next, b.total_is, is)) (λ is. more is ∙ b.some is);
        },
        λ whole. omega (arith, size, full, whole, length-append b.pieces ((0 ∷ piece) ∷ [])),
      )

  -- a piece has no room
  pub lacks_room : (c' : Cursor) (full : length b.bytes ≡ 65536 * length b.pieces) (piece : List ℕ) → 0 < length piece → length piece ≤ 65536
      → ForSome (told s) (λ ps. rest ps parts c ≡ piece ++ rest ps parts c') → rest_len parts c ≡ length piece + rest_len parts c' → log.limit < r1.next + 21 + length (0 ∷ piece) + 1
      → Front parts s t log r0 r1
  lacks_room c' full piece some most are len lacks =
      let all : 65536 * length b.pieces + length piece ≤ joined_len parts = omega (arith, b.size, len, full) in
      let grew : r1.next ≡ r0.next + 65558 * length b.pieces = omega (arith, b.next, full) in
      record {
        front = b.bytes;
        is_front = λ ps is. (rest ps parts c, sym (b.are ps is));
        pieces = b.pieces;
        cut = b.cut;
        taken = b.taken;
        next = grew ∙ ap (λ k. r0.next + k) (fit_some log.limit r0.next (length b.pieces) (length piece) (joined_len parts) some most all
            (λ any. omega (arith, b.fits (omega (arith, any, full)), grew)) (omega (arith, lacks, grew)));
        lacks = omega (arith, lacks, grew, all, some, most);
      }

  stands : (body : Body) (sum' : Md5) → Holds sum' b.bytes → body.first ≡ first → body.len ≡ total → ((bytes : List ℕ) → Holds sum' bytes → body.md5 ≡ md5 bytes) → StandsBehind s log r0 b.pieces body b.bytes
  stands body sum' digested at len sums = λ ps records is had.
      let place = run_end s log r0 ps records is had in
      let new = new_body (ps ++ records) b.pieces b.bytes body b.cut (len ∙ b.total_is) (λ some. at ∙ b.some (omega (arith, some, len)) ∙ place) (λ none. at ∙ b.none (sym len ∙ none)) in
      (record { pieces = new.stored; digest = sums b.bytes digested ∙ ap md5 (sym new.reads) }, new.reads)

  -- a body without bytes has the place 0
  placed_by : (body : Body) → (body.len ≡ 0 → body.first ≡ 0) → IsTrue (is_placed body)
  placed_by body none = split_len body.len (λ is. if_none body.len body.first is (none is)) (λ some. if_some body.len body.first some)
    where
      if_none : (len first : ℕ) → len ≡ 0 → first ≡ 0 → (if len == 0 then first == 0 else true) ≡ true
      if_none len first is at = grind (arith, nat_tests, is, at)

      if_some : (len first : ℕ) → 0 < len → (if len == 0 then first == 0 else true) ≡ true
      if_some len first some = grind (arith, nat_tests, some)

  -- no byte is left
  pub joins_whole : (log' : LogState) (sum' : Md5) (result : Joining) → rest_len parts c ≡ 0 → Holds sum' b.bytes → WholeIs result first total sum' → log' ≡ log → Joins result parts s t log log' r0 r1
  joins_whole log' sum' (joining.Joined body) none digested is same = (
    record {
      bytes = b.bytes;
      are = λ ps told_is. sym (b.are ps told_is ∙ ap (λ l. b.bytes ++ l) (rest_none ps parts c none) ∙ append-nil b.bytes);
      size = omega (arith, b.size, none);
      pieces = b.pieces;
      cut = b.cut;
      taken = b.taken;
      len = is.1 ∙ b.total_is;
      placed = placed_by body (λ empty. is.0 ∙ b.none (sym is.1 ∙ empty));
      digest = is.2 b.bytes digested;
      stands = stands body sum' digested is.0 is.1 is.2;
      next = b.next;
      fits = λ before. split_len (length b.bytes) (λ empty. omega (arith, b.next, empty, before)) b.fits;
    },
    same,
  )
  joins_whole log' sum' joining.Full none digested is same = absurd is
  joins_whole log' sum' joining.Disk none digested is same = absurd is
  joins_whole log' sum' joining.Memory none digested is same = absurd is

-- where no byte came
pub held_none : (sum : Md5) (front piece : List ℕ) → length piece ≡ 0 → Holds sum (front ++ piece) → Holds sum front
held_none sum front [] none holds = subst (λ l. Holds sum l) (append-nil front) holds
held_none sum front (x ∷ xs) none holds = absurd (omega (arith, none))

-- the disk worked, and memory was there
pub whole_some : (result : Joining) (first len : ℕ) (sum : Md5) → WholeIs result first len sum → (result ≢ joining.Disk) × (result ≢ joining.Memory)
whole_some (joining.Joined body) first len sum is = (λ e. cc e, λ e. cc e)
whole_some joining.Full first len sum is = absurd is
whole_some joining.Disk first len sum is = absurd is
whole_some joining.Memory first len sum is = absurd is
