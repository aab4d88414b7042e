-- A body that is stored in a run, as the engine sees it.
use Rattle.std.proofs.Common.{◌≡◌, ◌≢◌, ℕ, Bool, true, false, true≢false, ◌&&◌, List, [], ◌++◌, Option, refl, sym, ap, ◌∙◌, subst, append_assoc, append-nil}
use Rattle.std.specs.List.{list_all}
use Rattle.std.specs.Option.{ForSome}
use Rattle.std.proofs.lemmas.List.Folds.{list_all-append}
use Rattle.std.proofs.lemmas.Option.{same_Some}
use Rattle.md5.specs.declared.Md5.{Md5}
use Rattle.mt_codec.specs.Pieces.{is_piece}
use Rattle.mt_disk.specs.Files.{Files}
use Rattle.mt_log.specs.LogImage.{payloads_of}
use Rattle.mt_log.specs.LogState.{LogState, told}
use Rattle.mt_log.specs.RunState.{HasTaken, RunState}
use Rattle.mt_body.specs.Stored.{IsStored, bytes_of}
use Rattle.mt_body.specs.Storing.{Part, Stores, Whole}
use Rattle.mt_body.specs.declared.pieces.Storing.{Storing}
use Rattle.mt_body.specs.declared.pieces.Storing.TheVariants as storing
use Rattle.mt_model.specs.State.{State}
use Rattle.mt_types.specs.declared.body.Body.{Body}
use Rattle.mt_opening.specs.Current.{EngineState, IsCurrent, IsWriting}
use Rattle.mt_opening.specs.History.{Bytes, History}
use Rattle.mt_opening.proofs.Held.{current_at, holding_now, told_now}
use Rattle.mt_engine.specs.Accepting.{PartIn, StoredIn, StoresBody}

-- pieces behind pieces
all_pieces : (xs ys : List (List ℕ)) → list_all is_piece xs ≡ true → list_all is_piece ys ≡ true → list_all is_piece (xs ++ ys) ≡ true
all_pieces xs ys first second = list_all-append is_piece xs ys ∙ ap (λ (b : Bool). b && list_all is_piece ys) first ∙ second

-- a run that has taken nothing
pub begun : (seen : Option Files) (engine : EngineState) (run : RunState) (base : State Bytes) (h : History) → IsCurrent seen engine base h → HasTaken seen engine.log run []
    → ForSome (told seen) (λ ps. IsWriting seen engine run base h ps)
begun seen engine run base h i none ps is = record {
  current = i;
  records = [];
  pieces = refl;
  taken = none;
  all = same_Some _ _ (sym is ∙ told_now seen engine base h i) ∙ sym (append-nil (payloads_of i.is_read.files));
}

module _ (seen seen' : Option Files) (engine : EngineState) (run run' : RunState) (base : State Bytes) (h : History) (qs : List (List ℕ)) (w : IsWriting seen engine run base h qs) where
  -- the run goes on with pieces more
  writing_on : (pieces : List (List ℕ)) → list_all is_piece pieces ≡ true → told seen' ≡ told seen → HasTaken seen' engine.log run' (w.records ++ pieces) → IsWriting seen' engine run' base h (qs ++ pieces)
  writing_on pieces all same taken =
      let i = w.current in
      let now = current_at seen' engine base h (payloads_of i.is_read.files) (same ∙ told_now seen engine base h i) (λ files is. (taken files is).log) i.is_read.is_open i.version (holding_now seen engine base h i) in
      record {
        current = now;
        records = w.records ++ pieces;
        pieces = all_pieces w.records pieces w.pieces all;
        taken = taken;
        all = ap (λ (x : List (List ℕ)). x ++ pieces) w.all ∙ append_assoc (payloads_of i.is_read.files) w.records pieces
            ∙ ap (λ (x : List (List ℕ)). x ++ (w.records ++ pieces)) (same_Some _ _ (sym (told_now seen engine base h i) ∙ sym same ∙ told_now seen' engine base h now));
      }

  stored_in : (body : Body) (left left' : Option (List ℕ)) (sum' : Md5) → told seen' ≡ told seen → Whole body left left' sum' seen seen' engine.log run run' → StoredIn body left left' sum' seen' engine run run' base h qs
  stored_in body left left' sum' same s =
      let there = s.stands (payloads_of w.current.is_read.files) w.records (told_now seen engine base h w.current) w.taken in
      record {
        bytes = s.bytes;
        took = s.took;
        ended = s.ended;
        digested = s.digested;
        pieces = s.pieces;
        cut = s.cut;
        writing = writing_on s.pieces s.cut.all same (s.taken w.records w.taken);
        stands = subst (λ (x : List (List ℕ)). IsStored (x ++ s.pieces) body) (sym w.all) there.0;
        reads = ap (λ (x : List (List ℕ)). bytes_of (x ++ s.pieces) body) w.all ∙ there.1;
        len = s.len;
        next = s.next;
        fits = s.fits;
      }

  abbrev part_in : (left left' : Option (List ℕ)) (sum' : Md5) → told seen' ≡ told seen → Part left left' sum' seen seen' engine.log run run' → PartIn left left' sum' seen' engine run run' base h qs
  part_in left left' sum' same s = record {
    bytes = s.bytes;
    took = s.took;
    digested = s.digested;
    pieces = s.pieces;
    front = s.front;
    cut = s.cut;
    is_front = s.is_front;
    writing = writing_on s.pieces s.cut.all same (s.taken w.records w.taken);
    next = s.next;
    all = s.all;
  }

  -- the engine is the same where its log is
  same_engine : (engine' : EngineState) → engine' ≡ record engine { log = engine'.log } → engine'.log ≡ engine.log → engine' ≡ engine
  same_engine engine' is same = is ∙ ap (λ (l : LogState). record engine { log = l }) same

  -- what became of a body of a log is what became of it for the engine
  pub stores_body : (result : Storing) (left left' : Option (List ℕ)) (sum' : Md5) (engine' : EngineState) → engine' ≡ record engine { log = engine'.log } → Stores result left left' sum' seen seen' engine.log engine'.log run run'
      → (result ≢ storing.Disk → told seen' ≡ told seen) → (result ≡ storing.Memory → seen' ≡ seen) → StoresBody result left left' sum' seen' engine' run run' base h qs
  stores_body (storing.Stored body) left left' sum' engine' is s same none =
      subst (λ (e : EngineState). StoredIn body left left' sum' seen' e run run' base h qs) (sym (same_engine engine' is s.1)) (stored_in body left left' sum' (same (λ e. cc)) s.0)
  stores_body storing.Full left left' sum' engine' is s same none =
      subst (λ (e : EngineState). StoresBody storing.Full left left' sum' seen' e run run' base h qs) (sym (same_engine engine' is s.2)) (part_in left left' sum' (same (λ e. cc)) s.0, s.1)
  stores_body storing.SourceFault left left' sum' engine' is s same none =
      subst (λ (e : EngineState). PartIn left left' sum' seen' e run run' base h qs) (sym (same_engine engine' is s.1)) (part_in left left' sum' (same (λ e. cc)) s.0)
  stores_body storing.Disk left left' sum' engine' is s same none = ap (λ (l : LogState). l.closed) s.closed
  stores_body storing.Memory left left' sum' engine' is s same none =
      subst (λ (e : EngineState). IsWriting seen' e run' base h qs) (sym (same_engine engine' is s.1))
      (subst (λ (r : RunState). IsWriting seen' engine r base h qs) (sym s.2) (subst (λ (f : Option Files). IsWriting f engine run base h qs) (sym (none refl)) w))

-- the log is closed by a fault of the disk, and by nothing else
module _ (left left' : Option (List ℕ)) (sum' : Md5) (seen seen' : Option Files) (log log' : LogState) (run run' : RunState) where
  pub closed_by : (result : Storing) → Stores result left left' sum' seen seen' log log' run run' → result ≡ storing.Disk → log'.closed ≡ true
  closed_by result s is = ap (λ (l : LogState). l.closed) (subst (λ (r : Storing). Stores r left left' sum' seen seen' log log' run run') is s).closed

  pub stays_open : (result : Storing) → Stores result left left' sum' seen seen' log log' run run' → result ≢ storing.Disk → log' ≡ log
  stays_open (storing.Stored body) s not = s.1
  stays_open storing.Full s not = s.2
  stays_open storing.SourceFault s not = s.1
  stays_open storing.Disk s not = absurd (not refl)
  stays_open storing.Memory s not = s.1

  -- so it is the same where it is open
  pub same_where_open : (result : Storing) → Stores result left left' sum' seen seen' log log' run run' → log'.closed ≡ false → log' ≡ log
  same_where_open (storing.Stored body) s is_open = s.1
  same_where_open storing.Full s is_open = s.2
  same_where_open storing.SourceFault s is_open = s.1
  same_where_open storing.Disk s is_open = absurd (true≢false (sym (ap (λ (l : LogState). l.closed) s.closed) ∙ is_open))
  same_where_open storing.Memory s is_open = s.1
