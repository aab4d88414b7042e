-- Pieces of a body that are added to a run one after another, and each end of it.
use Rattle.std.proofs.Common.{◌≡◌, ◌≢◌, ◌⊎◌, ⊎_elim, ◌<◌, ◌≤◌, ℕ, zero, suc, ◌+◌, ◌-◌, ◌*◌, ◌/◌, Bool, true, false, if◌then◌else◌, List, [], ◌∷◌, ◌++◌, length, Option, Some, None, is_some, refl, sym, ◌∙◌, ap, subst, arith, length-append, append_assoc, append-nil}
use Rattle.std.specs.Prelude.{IsTrue, ◌==◌, nat_le}
use Rattle.std.specs.Option.{ForSome}
use Rattle.std.proofs.lemmas.Bool.Decides.{nat_tests}
use Rattle.md5.specs.Md5.{Holds, md5}
use Rattle.md5.specs.declared.Md5.{Md5}
use Rattle.mt_base.specs.Counts.{NeverFell, Rose}
use Rattle.mt_disk.specs.Files.{Files}
use Rattle.mt_disk.specs.CrashModel.{LeavesOnly}
use Rattle.mt_edge.specs.Stream.{LeftAfter}
use Rattle.mt_edge.proofs.Streams.{left_after, left_all}
use Rattle.mt_types.specs.Limits.{is_placed}
use Rattle.mt_types.specs.declared.body.Body.{Body}
use Rattle.mt_log.specs.LogImage.{IsBeforeOrAfter, payloads_of}
use Rattle.mt_log.specs.LogState.{LogState, told}
use Rattle.mt_log.specs.RunState.{HasTaken, RunState, Running}
use Rattle.mt_log.proofs.Running.{run_end, run_leaves}
use Rattle.mt_log.proofs.Told.{mapped_some}
use Rattle.mt_body.specs.Filling.{AtEnd, EndsSo}
use Rattle.mt_body.specs.Stored.{IsCut, pieces_size, pieces_that_fit}
use Rattle.mt_body.specs.Storing.{Begun, Broken, LackIs, LastIs, Part, StandsBehind, Stores}
use Rattle.mt_body.specs.declared.fill.End.{End}
use Rattle.mt_body.specs.declared.fill.End.TheVariants as end
use Rattle.mt_body.specs.declared.pieces.Storing.{Storing}
use Rattle.mt_body.specs.declared.pieces.Storing.TheVariants as storing
use Rattle.mt_body.proofs.Cuts.{cut_none, cut_push, split_len}
use Rattle.mt_body.proofs.Keeping.{new_body}

if_le : (a b x y : ℕ) → a ≤ b → (if nat_le a b then x else y) ≡ x
if_le a b x y is = grind (arith, nat_tests, is)

if_over : (a b x y : ℕ) → b < a → (if nat_le a b then x else y) ≡ y
if_over a b x y is = grind (arith, nat_tests, is)

-- all of it has room, or there is none
fit_all : (limit next len : ℕ) → (0 < len → next + pieces_size len + 1 ≤ limit) → pieces_size len ≡ pieces_that_fit limit (next + 1) len
fit_all limit next len fits = split_len len (λ none. ap pieces_size none ∙ sym (ap (λ n. pieces_that_fit limit (next + 1) n) none ∙ no_len limit (next + 1)))
    (λ some. sym (if_le (next + 1 + pieces_size len) limit _ _ (omega (arith, fits some))))
  where
    either : (t : Bool) (a used b : ℕ) → nat_le a b ≡ t → a ≡ used → (if t then 0 else 65558 * ((b - used) / 65558)) ≡ 0
    either true a used b is same = refl
    either false a used b is same = let over : b < a = grind (arith, nat_tests, is) in omega (arith, over, same)

    no_len : (limit used : ℕ) → pieces_that_fit limit used 0 ≡ 0
    no_len limit used = either (nat_le (used + pieces_size 0) limit) (used + pieces_size 0) used limit refl (omega arith)

-- so many full pieces have room, and one more piece hasn't
fit_some : (limit next k c : ℕ) → 0 < c → c ≤ 65536 → (0 < k → next + 65558 * k + 1 ≤ limit) → limit < next + 65558 * k + 22 + c + 1 → 65558 * k ≡ pieces_that_fit limit (next + 1) (65536 * k + c)
fit_some limit next k c some most fits full =
    sym (if_over (next + 1 + pieces_size (65536 * k + c)) limit (pieces_size (65536 * k + c)) (65558 * ((limit - (next + 1)) / 65558)) (omega (arith, full, some, most)) ∙ by k fits full)
  where
    by : (k : ℕ) → (0 < k → next + 65558 * k + 1 ≤ limit) → limit < next + 65558 * k + 22 + c + 1 → 65558 * ((limit - (next + 1)) / 65558) ≡ 65558 * k
    by zero fits full = omega (arith, full, most)
    by (suc k) fits full = omega (arith, fits (omega arith), full, most)

-- nothing was read yet
pub begun_none : (left : Option (List ℕ)) (sum : Md5) (seen : Option Files) (log : LogState) (run : RunState) → Holds sum [] → (b : Begun left left sum seen seen log run run 0 0) × (length b.bytes ≡ 65536 * length b.pieces)
begun_none left sum seen log run fresh = (
  record {
    bytes = [];
    took = left_all left;
    digested = fresh;
    pieces = [];
    cut = cut_none;
    taken = λ records had. subst (λ l. HasTaken seen log run l) (sym (append-nil records)) had;
    next = omega arith;
    fits = λ some. absurd (omega (arith, some));
    total_is = refl;
    none = λ is. refl;
    some = λ some. absurd (omega (arith, some));
  },
  omega arith,
)

module _ (l m n : Option (List ℕ)) (sum sum' : Md5) (s t u : Option Files) (log : LogState) (r0 r1 r2 : RunState) (total first : ℕ) (b : Begun l m sum s t log r0 r1 total first) where
  -- one piece more
  pub begun_more : (full : length b.bytes ≡ 65536 * length b.pieces) (piece : List ℕ) (total' first' : ℕ) → 0 < length piece → length piece ≤ 65536 → LeftAfter m piece n → Holds sum' (b.bytes ++ piece)
      → ((records : List (List ℕ)) → HasTaken t log r1 records → HasTaken u log r2 (records ++ (0 ∷ piece) ∷ [])) → r2.next ≡ r1.next + 21 + length (0 ∷ piece) → r2.next + 1 ≤ log.limit
      → total' ≡ total + length piece → (total ≡ 0 → first' ≡ r1.next) → (0 < total → first' ≡ first) → (c : Begun l n sum' s u log r0 r2 total' first') × (length piece ≡ 65536 → length c.bytes ≡ 65536 * length c.pieces)
  begun_more full piece total' first' some most took digested taken next fits total_is none more =
      let size = length-append b.bytes piece in (
        record {
          bytes = b.bytes ++ piece;
          took = left_after l b.bytes m piece n b.took took;
          digested = digested;
          pieces = b.pieces ++ (0 ∷ piece) ∷ [];
          cut = cut_push b.pieces b.bytes piece some most full b.cut;
          taken = λ records had. subst (λ x. HasTaken u log r2 x) (append_assoc records b.pieces ((0 ∷ piece) ∷ [])) (taken (records ++ b.pieces) (b.taken records had));
          next = omega (arith, next, b.next, size, full, some, most);
          fits = λ any. fits;
          total_is = omega (arith, total_is, b.total_is, size);
          none = λ is. absurd (omega (arith, is, total_is, some));
          some = λ any. split_len total (λ is. none is ∙ omega (arith, b.next, b.total_is, is)) (λ is. more is ∙ b.some is);
        },
        λ whole. omega (arith, size, full, whole, length-append b.pieces ((0 ∷ piece) ∷ [])),
      )

  -- no byte more
  pub begun_still : (piece : List ℕ) → length piece ≡ 0 → LeftAfter m piece n → Holds sum' (b.bytes ++ piece) → Begun l n sum' s t log r0 r1 total first
  begun_still [] none took digested = record {
    bytes = b.bytes ++ [];
    took = left_after l b.bytes m [] n b.took took;
    digested = digested;
    pieces = b.pieces;
    cut = subst (λ x. IsCut b.pieces x) (sym (append-nil b.bytes)) b.cut;
    taken = b.taken;
    next = b.next ∙ ap (λ x. r0.next + pieces_size (length x)) (sym (append-nil b.bytes));
    fits = λ some. b.fits (omega (arith, some, length-append b.bytes []));
    total_is = b.total_is ∙ ap length (sym (append-nil b.bytes));
    none = b.none;
    some = b.some;
  }
  begun_still (x ∷ xs) none took digested = absurd (omega (arith, none))

  -- a piece has no room
  no_room : (full : length b.bytes ≡ 65536 * length b.pieces) (piece : List ℕ) → 0 < length piece → length piece ≤ 65536 → LeftAfter m piece n → Holds sum' (b.bytes ++ piece) → log.limit < r1.next + 21 + length (0 ∷ piece) + 1
      → (p : Part l n sum' s t log r0 r1) × (log.limit < r0.next + pieces_size (length p.bytes) + 1)
  no_room full piece some most took digested lacks =
      let size = length-append b.bytes piece in
      let all : length (b.bytes ++ piece) ≡ 65536 * length b.pieces + length piece = omega (arith, size, full) in
      let grew : r1.next ≡ r0.next + 65558 * length b.pieces = omega (arith, b.next, full) in (
        record {
          bytes = b.bytes ++ piece;
          took = left_after l b.bytes m piece n b.took took;
          digested = digested;
          pieces = b.pieces;
          front = b.bytes;
          cut = b.cut;
          is_front = (piece, refl);
          taken = b.taken;
          next = grew ∙ ap (λ k. r0.next + k) (fit_some log.limit r0.next (length b.pieces) (length piece) some most (λ any. omega (arith, b.fits (omega (arith, any, full)), grew)) (omega (arith, lacks, grew))
              ∙ ap (λ k. pieces_that_fit log.limit (r0.next + 1) k) (sym all));
          all = λ fits. absurd (omega (arith, fits, lacks, grew, all, some, most));
        },
        omega (arith, lacks, grew, all, some, most),
      )

  pub stores_lack : (e : End) (full : length b.bytes ≡ 65536 * length b.pieces) (piece : List ℕ) (log' : LogState) → 0 < length piece → length piece ≤ 65536 → LeftAfter m piece n → Holds sum' (b.bytes ++ piece)
      → log.limit < r1.next + 21 + length (0 ∷ piece) + 1 → log' ≡ log → Stores (LackIs e) l n sum' s t log log' r0 r1
  stores_lack end.Failed full piece log' some most took digested lacks same = ((no_room full piece some most took digested lacks).0, same)
  stores_lack end.Whole full piece log' some most took digested lacks same = let p = no_room full piece some most took digested lacks in (p.0, p.1, same)
  stores_lack end.Ended full piece log' some most took digested lacks same = let p = no_room full piece some most took digested lacks in (p.0, p.1, same)

  -- the disk failed in a piece
  pub broken : (piece : List ℕ) (log' : LogState) → LeftAfter m piece n → Holds sum' (b.bytes ++ piece) → log' ≡ record log { closed = true } → Broken l n sum' log log'
  broken piece log' took digested closed = record { bytes = b.bytes ++ piece; took = left_after l b.bytes m piece n b.took took; digested = digested; closed = closed }

-- a body without bytes has the place 0
placed_by : (body : Body) → (body.len ≡ 0 → body.first ≡ 0) → IsTrue (is_placed body)
placed_by body none = split_len body.len (λ is. if_none body.len body.first is (none is)) (λ some. if_some body.len body.first some)
  where
    if_none : (len first : ℕ) → len ≡ 0 → first ≡ 0 → (if len == 0 then first == 0 else true) ≡ true
    if_none len first is at = grind (arith, nat_tests, is, at)

    if_some : (len first : ℕ) → 0 < len → (if len == 0 then first == 0 else true) ≡ true
    if_some len first some = grind (arith, nat_tests, some)

module _ (l n : Option (List ℕ)) (sum : Md5) (s t : Option Files) (log log' : LogState) (r0 r1 : RunState) (total first : ℕ) (b : Begun l n sum s t log r0 r1 total first) where
  stands : (body : Body) → body.first ≡ first → body.len ≡ total → ((bytes : List ℕ) → Holds sum bytes → body.md5 ≡ md5 bytes) → StandsBehind s log r0 b.pieces body b.bytes
  stands body at len sums = λ ps records is had.
      let place = run_end s log r0 ps records is had in
      let new = new_body (ps ++ records) b.pieces b.bytes body b.cut (len ∙ b.total_is) (λ some. at ∙ b.some (omega (arith, some, len)) ∙ place) (λ none. at ∙ b.none (sym len ∙ none)) in
      (record { pieces = new.stored; digest = sums b.bytes b.digested ∙ ap md5 (sym new.reads) }, new.reads)

  -- no more is read
  pub stores_last : (e : End) (result : Storing) → LastIs e result first total sum → (e ≢ end.Failed → AtEnd n) → log' ≡ log → Stores result l n sum s t log log' r0 r1
  stores_last e (storing.Stored body) last at_end same = (
    record {
      bytes = b.bytes;
      took = b.took;
      ended = at_end last.0;
      digested = b.digested;
      pieces = b.pieces;
      cut = b.cut;
      taken = b.taken;
      len = last.2 ∙ b.total_is;
      placed = placed_by body (λ none. last.1 ∙ b.none (sym last.2 ∙ none));
      digest = last.3 b.bytes b.digested;
      stands = stands body last.1 last.2 last.3;
      next = b.next;
      fits = λ before. split_len (length b.bytes) (λ none. omega (arith, b.next, none, before)) b.fits;
    },
    same,
  )
  stores_last e storing.SourceFault last at_end same = (
    record {
      bytes = b.bytes;
      took = b.took;
      digested = b.digested;
      pieces = b.pieces;
      front = b.bytes;
      cut = b.cut;
      is_front = ([], append-nil b.bytes);
      taken = b.taken;
      next = b.next ∙ ap (λ k. r0.next + k) (fit_all log.limit r0.next (length b.bytes) (λ some. omega (arith, b.fits some, b.next)));
      all = λ fits. refl;
    },
    same,
  )
  stores_last e storing.Full last at_end same = absurd last
  stores_last e storing.Disk last at_end same = absurd last
  stores_last e storing.Memory last at_end same = absurd last

-- a fault of the source is counted
pub last_rose : (e : End) (result : Storing) (first len count room faults faults' : ℕ) (sum : Md5) (left' : Option (List ℕ)) → LastIs e result first len sum → EndsSo e count room left' faults faults' → result ≡ storing.SourceFault → Rose faults faults'
last_rose e storing.SourceFault first len count room faults faults' sum left' last ends is = subst (λ x. EndsSo x count room left' faults faults') last ends
last_rose e (storing.Stored body) first len count room faults faults' sum left' last ends is = absurd (cc is)
last_rose e storing.Full first len count room faults faults' sum left' last ends is = absurd last
last_rose e storing.Disk first len count room faults faults' sum left' last ends is = absurd last
last_rose e storing.Memory first len count room faults faults' sum left' last ends is = absurd last

pub lack_rose : (e : End) (count room faults faults' : ℕ) (left' : Option (List ℕ)) → EndsSo e count room left' faults faults' → LackIs e ≡ storing.SourceFault → Rose faults faults'
lack_rose end.Failed count room faults faults' left' ends is = ends
lack_rose end.Whole count room faults faults' left' ends is = absurd (cc is)
lack_rose end.Ended count room faults faults' left' ends is = absurd (cc is)

pub never_fell : (e : End) (count room faults faults' : ℕ) (left' : Option (List ℕ)) → EndsSo e count room left' faults faults' → NeverFell faults faults'
never_fell end.Failed count room faults faults' left' ends = omega (arith, ends)
never_fell end.Whole count room faults faults' left' ends = ends.1
never_fell end.Ended count room faults faults' left' ends = ends.1

-- where no read failed and there was room, nothing is left
pub at_end : (e : End) (count room faults faults' : ℕ) (left' : Option (List ℕ)) → EndsSo e count room left' faults faults' → count < room → e ≢ end.Failed → AtEnd left'
at_end end.Failed count room faults faults' left' ends less is = absurd (is refl)
at_end end.Whole count room faults faults' left' ends less is = absurd (omega (arith, ends.0, less))
at_end end.Ended count room faults faults' left' ends less is = ends.0

pub at_last : (e : End) (count room faults faults' : ℕ) (left' : Option (List ℕ)) → EndsSo e count room left' faults faults' → (e ≡ end.Ended) ⊎ (e ≡ end.Failed) → e ≢ end.Failed → AtEnd left'
at_last end.Failed count room faults faults' left' ends is not = absurd (not refl)
at_last end.Whole count room faults faults' left' ends is not = absurd (⊎_elim (λ x. cc x) (λ x. cc x) is)
at_last end.Ended count room faults faults' left' ends is not = ends.0

-- the images of one call more have the payloads of before
pub any_on : {D : Type 0} (seen : D → Option Files) (may_leave : D → Files → Type 0) (moment : D → ℕ) (left_since : D → ℕ → Files → Type 0) (begin mid new : D) (log : LogState) (r0 r1 : RunState)
    → log.closed ≡ false → Running seen may_leave begin log r0 → Running seen may_leave mid log r1 → told (seen mid) ≡ told (seen begin)
    → ForSome (seen begin) (λ files. LeavesOnly moment left_since begin mid (IsBeforeOrAfter files [])) → ForSome (seen mid) (λ files. LeavesOnly moment left_since mid new (IsBeforeOrAfter files []))
    → ForSome (seen begin) (λ files. LeavesOnly moment left_since begin new (IsBeforeOrAfter files []))
any_on seen may_leave moment left_since begin mid new log r0 r1 is_open first second same before after = λ files is.
    let now = mapped_some payloads_of (seen mid) (payloads_of files) (same ∙ ap told is) in
    run_leaves seen may_leave moment left_since begin mid new files now.0 log [] (first is_open files is).laying.log (second is_open now.0 now.1).laying.log now.2 (before files is) (after now.0 now.1)

-- as much is told
pub told_tells : (o n : Option Files) → told n ≡ told o → is_some n ≡ is_some o
told_tells None None same = refl
told_tells (Some f) (Some h) same = refl
told_tells None (Some h) same = absurd (cc same)
told_tells (Some f) None same = absurd (cc same)

-- memory was there
pub last_some : (e : End) (result : Storing) (first len : ℕ) (sum : Md5) → LastIs e result first len sum → result ≢ storing.Memory
last_some e (storing.Stored body) first len sum last is = cc is
last_some e storing.SourceFault first len sum last is = cc is
last_some e storing.Full first len sum last is = last
last_some e storing.Disk first len sum last is = last
last_some e storing.Memory first len sum last is = last

pub lack_some : (e : End) → LackIs e ≢ storing.Memory
lack_some end.Failed is = cc is
lack_some end.Whole is = cc is
lack_some end.Ended is = cc is
