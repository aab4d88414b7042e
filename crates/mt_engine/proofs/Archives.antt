-- The texts of a job that are stored in a run, one after the other.
use Rattle.std.proofs.Common.{◌≡◌, ◌≢◌, ◌+◌, ◌≤◌, ◌<◌, ℕ, Bool, true, false, true≢false, List, [], ◌∷◌, ◌++◌, length, Option, Some, None, refl, sym, ap, ◌∙◌, subst, arith, append_assoc, append-nil, length-append}
use Rattle.std.specs.Prelude.{⊤, IfSome, IsTrue, is_some, option_map}
use Rattle.std.specs.Option.{option_map_or}
use Rattle.std.proofs.lemmas.Option.{none-some, same_Some}
use Rattle.md5.specs.declared.Md5.{Md5}
use Rattle.mt_base.specs.Counts.{NeverFell, Rose}
use Rattle.mt_disk.specs.CrashModel.{LeavesOnly}
use Rattle.mt_disk.specs.Files.{Files}
use Rattle.mt_disk.proofs.Moments.{joins}
use Rattle.mt_edge.specs.Stream.{LeftAfter}
use Rattle.mt_log.specs.LogState.{LogState, told}
use Rattle.mt_log.specs.RunState.{RunState}
use Rattle.mt_body.specs.Filling.{AtEnd}
use Rattle.mt_body.specs.Growth.{archive_pieces}
use Rattle.mt_body.specs.Stored.{IsStored, bytes_of, pieces_size}
use Rattle.mt_body.specs.Storing.{Stores}
use Rattle.mt_body.specs.declared.pieces.Storing.{Storing}
use Rattle.mt_body.specs.declared.pieces.Storing.TheVariants as storing
use Rattle.mt_body.proofs.Keeping as keeping
use Rattle.mt_jobtext.specs.JobTexts.{archive_of, text_of}
use Rattle.mt_model.specs.JobSteps.{done_at}
use Rattle.mt_model.specs.State.{State, job_at}
use Rattle.mt_types.specs.Limits.{is_placed}
use Rattle.mt_types.specs.declared.body.Body.{Body}
use Rattle.mt_types.specs.declared.command.Archive.{Archive}
use Rattle.mt_types.specs.declared.job.Job.{Job}
use Rattle.mt_types.specs.declared.live.LiveText.{LiveText}
use Rattle.mt_types.specs.declared.live.LiveText.TheVariants as live
use Rattle.mt_opening.specs.Current.{EngineState, IsWriting}
use Rattle.mt_opening.specs.History.{Bytes, HasHistory, History}
use Rattle.mt_engine.specs.Archiving.{AreTextsOf, ArchiveGoes, MoreIn, PlacesText, StoresText, TextGoes, TextIn, ended_by, texts_size}
use Rattle.mt_engine.specs.Accepting.{StoresBody}
use Rattle.mt_engine.specs.Ready.{EngineStays, RunGoesOn, RunIsReady}
use Rattle.mt_engine.specs.declared.archiving.Archiving.TheVariants as archiving
use Rattle.mt_engine.proofs.Stores.{stores_body}

-- ---- one text

-- a text of which nothing is left was read whole
whole_text : (text bytes : List ℕ) (left : Option (List ℕ)) → LeftAfter (Some text) bytes left → AtEnd left → bytes ≡ text
whole_text text bytes None took at = absurd (none-some text (sym took))
whole_text text bytes (Some rest) took at = sym (same_Some _ _ took ∙ ap (λ (x : List ℕ). bytes ++ x) at ∙ append-nil bytes)

-- what was read of it is no longer
front_text : (text bytes : List ℕ) (left : Option (List ℕ)) → LeftAfter (Some text) bytes left → length bytes ≤ length text
front_text text bytes None took = absurd (none-some text (sym took))
front_text text bytes (Some rest) took = omega (arith, ap (λ (x : List ℕ). length x) (same_Some _ _ took), length-append bytes rest)

-- and adds no more
pieces_of_less : (a b : ℕ) → a ≤ b → pieces_size a ≤ pieces_size b
pieces_of_less a b less = omega (arith, less)

lacks_more : (limit next a b : ℕ) → limit < next + a + 1 → a ≤ b → limit < next + b + 1
lacks_more limit next a b lacks less = omega (arith, lacks, less)

no_fault : Rose 0 0 → ⊥
no_fault rose = omega (arith, rose)

module _ (text : List ℕ) (left : Option (List ℕ)) (sum' : Md5) (seen seen' : Option Files) (engine : EngineState) (run run' : RunState) where
  -- over any disk
  pub places_text : (result : Storing) (log' : LogState) → Stores result (Some text) left sum' seen seen' engine.log log' run run' → (result ≡ storing.SourceFault → Rose 0 0) → PlacesText result text engine run run'
  places_text (storing.Stored body) log' s none = (s.0.placed, s.0.next ∙ ap (λ (x : List ℕ). run.next + pieces_size (length x)) (whole_text text s.0.bytes left s.0.took s.0.ended))
  places_text storing.Full log' s none =
      lacks_more engine.log.limit run.next (pieces_size (length s.0.bytes)) (pieces_size (length text)) s.1 (pieces_of_less (length s.0.bytes) (length text) (front_text text s.0.bytes left s.0.took))
  places_text storing.SourceFault log' s none = no_fault (none refl)
  places_text storing.Disk log' s none = tt
  places_text storing.Memory log' s none = tt

  -- over one that tells
  text_told : (base : State Bytes) (h : History) (qs : List (List ℕ)) (result : Storing) (engine' : EngineState) → StoresBody result (Some text) left sum' seen' engine' run run' base h qs → (result ≡ storing.SourceFault → Rose 0 0)
      → StoresText result text seen' engine' run' base h qs
  text_told base h qs (storing.Stored body) engine' s none = record { pieces = s.pieces; writing = s.writing; stands = s.stands; reads = s.reads ∙ whole_text text s.bytes left s.took s.ended }
  text_told base h qs storing.Full engine' s none = record { pieces = s.0.pieces; writing = s.0.writing }
  text_told base h qs storing.SourceFault engine' s none = no_fault (none refl)
  text_told base h qs storing.Disk engine' s none = s
  text_told base h qs storing.Memory engine' s none = record { pieces = []; writing = subst (λ (x : List (List ℕ)). IsWriting seen' engine' run' base h x) (sym (append-nil qs)) s }

  pub stores_text : (base : State Bytes) (h : History) (qs : List (List ℕ)) (result : Storing) (engine' : EngineState) → engine' ≡ record engine { log = engine'.log }
      → Stores result (Some text) left sum' seen seen' engine.log engine'.log run run' → (result ≢ storing.Disk → told seen' ≡ told seen) → (result ≡ storing.Memory → seen' ≡ seen) → (result ≡ storing.SourceFault → Rose 0 0)
      → IsWriting seen engine run base h qs → StoresText result text seen' engine' run' base h qs
  stores_text base h qs result engine' is s same none fault w =
      text_told base h qs result engine' (stores_body seen seen' engine run run' base h qs w result (Some text) left sum' engine' is s same none) fault

-- ---- several texts

-- a text stands in payloads as a body
pub record Stands (qs : List (List ℕ)) (text : List ℕ) (body : Body) : Type 0 where
  pub stored : IsStored qs body
  pub reads : bytes_of qs body ≡ text

-- each of these as one of these
abbrev pub StandAll : List (List ℕ) → List (List ℕ) → List Body → Type 0
StandAll qs [] bodies = ⊤
StandAll qs (text ∷ texts) [] = ⊥
StandAll qs (text ∷ texts) (body ∷ bodies) = Stands qs text body × StandAll qs texts bodies

stand_on : (qs more : List (List ℕ)) (texts : List (List ℕ)) (bodies : List Body) → StandAll qs texts bodies → StandAll (qs ++ more) texts bodies
stand_on qs more [] bodies all = tt
stand_on qs more (text ∷ texts) [] all = all
stand_on qs more (text ∷ texts) (body ∷ bodies) all =
    (record { stored = (keeping.keeps qs more).kept body all.0.stored; reads = (keeping.keeps qs more).same body all.0.stored ∙ all.0.reads }, stand_on qs more texts bodies all.1)

pub record TextsIn (texts : List (List ℕ)) (bodies : List Body) (seen : Option Files) (engine : EngineState) (run : RunState) (base : State Bytes) (h : History) (qs : List (List ℕ)) : Type 0 where
  pub pieces : List (List ℕ)
  pub writing : IsWriting seen engine run base h (qs ++ pieces)
  pub stand : StandAll (qs ++ pieces) texts bodies

module _ (seen seen' : Option Files) (engine engine' : EngineState) (run run' : RunState) (base : State Bytes) (h : History) (qs : List (List ℕ)) (texts : List (List ℕ)) (bodies : List Body)
    (x : TextsIn texts bodies seen engine run base h qs) where
  -- and one text more
  one_more : (text : List ℕ) (body : Body) → TextIn text body seen' engine' run' base h (qs ++ x.pieces) → TextsIn (text ∷ texts) (body ∷ bodies) seen' engine' run' base h qs
  one_more text body y =
      let so = append_assoc qs x.pieces y.pieces in
      record {
        pieces = x.pieces ++ y.pieces;
        writing = subst (λ (l : List (List ℕ)). IsWriting seen' engine' run' base h l) so y.writing;
        stand = subst (λ (l : List (List ℕ)). StandAll l (text ∷ texts) (body ∷ bodies)) so (record { stored = y.stands; reads = y.reads }, stand_on (qs ++ x.pieces) y.pieces texts bodies x.stand);
      }

  -- or pieces that count for nothing
  more_on : MoreIn seen' engine' run' base h (qs ++ x.pieces) → MoreIn seen' engine' run' base h qs
  more_on y = record { pieces = x.pieces ++ y.pieces; writing = subst (λ (l : List (List ℕ)). IsWriting seen' engine' run' base h l) (append_assoc qs x.pieces y.pieces) y.writing }

-- what they add
abbrev pub texts_pieces : List (List ℕ) → ℕ
texts_pieces [] = 0
texts_pieces (text ∷ texts) = pieces_size (length text) + texts_pieces texts

abbrev pub ArePlaced : List Body → Type 0
ArePlaced [] = ⊤
ArePlaced (body ∷ bodies) = IsTrue (is_placed body) × ArePlaced bodies

sums : (a b c p q : ℕ) → c ≡ b + p → b ≡ a + q → c ≡ a + (p + q)
sums a b c p q second first = omega (arith, second, first)

lacks_all : (limit limit' next next' s p w : ℕ) → limit' ≡ limit → next' ≡ next + s → limit' < next' + p + 1 → s + p ≤ w → limit < next + w + 1
lacks_all limit limit' next next' s p w same grew lacks few = omega (arith, same, grew, lacks, few)

-- each text fits behind those before it
pub few_err : (e f i s o : ℕ) → 0 + e ≤ e + f + i + s + o
few_err e f i s o = omega arith

pub few_fail : (e f i s o : ℕ) → (e + 0) + f ≤ e + f + i + s + o
few_fail e f i s o = omega arith

pub few_input : (e f i s o : ℕ) → (f + (e + 0)) + i ≤ e + f + i + s + o
few_input e f i s o = omega arith

pub few_status : (e f i s o : ℕ) → (i + (f + (e + 0))) + s ≤ e + f + i + s + o
few_status e f i s o = omega arith

pub few_out : (e f i s o : ℕ) → (s + (i + (f + (e + 0)))) + o ≤ e + f + i + s + o
few_out e f i s o = omega arith

five : (e f i s o : ℕ) → o + (s + (i + (f + (e + 0)))) ≡ e + f + i + s + o
five e f i s o = omega arith

-- counts of faults
pub never_same : (a : ℕ) → NeverFell a a
never_same a = omega arith

never_on : (a b c : ℕ) → NeverFell a b → NeverFell b c → NeverFell a c
never_on a b c first second = omega (arith, first, second)

rose_on : (a b c : ℕ) → NeverFell a b → Rose b c → Rose a c
rose_on a b c first second = omega (arith, first, second)

-- a job that is there
pub the_job : (o : Option (Job Body)) → is_some o ≡ true → (j : Job Body) × (o ≡ Some j)
the_job None is = absurd (true≢false (sym is))
the_job (Some j) is = (j, refl)

-- Of a job of an engine, over a disk.
module _ {D : Type 0} (seen : D → Option Files) (may_leave : D → Files → Type 0) (moment : D → ℕ) (left_since : D → ℕ → Files → Type 0) (count : D → ℕ) (old : D) (engine : EngineState) (run : RunState)
    (login : List ℕ) (number : ℕ) (cancelled : Bool) (at : ℕ) (j : Job Body) (found : job_at engine.state.jobs number ≡ Some j) where
  abbrev pub the_text : LiveText → List ℕ
  the_text text = text_of login (done_at at cancelled j) text

  abbrev pub the_texts : Archive (List ℕ)
  the_texts = archive_of login (done_at at cancelled j)

  -- these texts were stored in a run, the last of them first, and the engine is as it was
  pub record Grows (new : D) (engine' : EngineState) (run' : RunState) (texts : List (List ℕ)) (bodies : List Body) : Type 0 where
    pub same : engine' ≡ engine
    pub is_open : engine'.log.closed ≡ false
    pub next : run'.next ≡ run.next + texts_pieces texts
    pub placed : ArePlaced bodies
    pub told : (base : State Bytes) (h : History) (qs : List (List ℕ)) → IsWriting (seen old) engine run base h qs → TextsIn texts bodies (seen new) engine' run' base h qs
    pub any_moment : (base : State Bytes) (h : History) (qs : List (List ℕ)) → IsWriting (seen old) engine run base h qs → LeavesOnly moment left_since old new (HasHistory base h)
    pub goes_on : RunGoesOn seen may_leave new engine' run'
    pub keeps : EngineStays seen count old new engine engine'

  -- none yet
  pub grows_none : RunIsReady seen may_leave old engine run
      → ((base : State Bytes) (h : History) (qs : List (List ℕ)) → IsWriting (seen old) engine run base h qs → LeavesOnly moment left_since old old (HasHistory base h)) → Grows old engine run [] []
  grows_none ready idle = record {
    same = refl;
    is_open = ready.is_open;
    next = omega arith;
    placed = tt;
    told = λ base h qs w. record { pieces = []; writing = subst (λ (x : List (List ℕ)). IsWriting (seen old) engine run base h x) (sym (append-nil qs)) w; stand = tt };
    any_moment = idle;
    goes_on = record { running = ready.running; order = ready.order };
    keeps = record { told = λ o. refl; version = λ o. refl; limit = λ o. refl; faults = never_same (count old) };
  }

  size_is : texts_size login engine number cancelled at ≡ archive_pieces the_texts
  size_is = ap (λ (o : Option (Job Body)). option_map_or (λ (x : Job Body). archive_pieces (archive_of login (done_at at cancelled x))) o 0) found

  texts_are : (texts : Archive (List ℕ)) → AreTextsOf login engine number cancelled at texts → the_texts ≡ texts
  texts_are texts are = same_Some _ _ (sym (ap (λ (o : Option (Job Body)). option_map (λ (x : Job Body). archive_of login (done_at at cancelled x)) o) found) ∙ are)

  module _ (mid : D) (engine1 : EngineState) (run1 : RunState) (texts : List (List ℕ)) (bodies : List Body) (g : Grows mid engine1 run1 texts bodies)
      (new : D) (engine2 : EngineState) (run2 : RunState) where
    -- what is said of the job there is said of this one
    here : (P : Job Body → Type 0) → IfSome (job_at engine1.state.jobs number) P → P j
    here P is = subst (λ (o : Option (Job Body)). IfSome o P) (ap (λ (e : EngineState). job_at e.state.jobs number) g.same ∙ found) is

    stays_on : EngineStays seen count mid new engine1 engine2 → EngineStays seen count old new engine engine2
    stays_on k = record {
      told = λ o. k.told o ∙ g.keeps.told g.is_open;
      version = λ o. k.version o ∙ g.keeps.version g.is_open;
      limit = λ o. k.limit o ∙ g.keeps.limit g.is_open;
      faults = never_on (count old) (count mid) (count new) g.keeps.faults k.faults;
    }

    moment_on : (base : State Bytes) (h : History) (qs : List (List ℕ))
        → ((more : List (List ℕ)) → IsWriting (seen mid) engine1 run1 base h more → LeavesOnly moment left_since mid new (HasHistory base h))
        → IsWriting (seen old) engine run base h qs → LeavesOnly moment left_since old new (HasHistory base h)
    moment_on base h qs any w =
        let x = g.told base h qs w in
        joins moment left_since old mid new (HasHistory base h) (HasHistory base h) (HasHistory base h) (g.any_moment base h qs w) (any (qs ++ x.pieces) x.writing) (λ c p. p) (λ c p. p)

    abbrev pub Does : LiveText → Storing → Type 0
    Does text result =
        IfSome (job_at engine1.state.jobs number) (λ x. TextGoes seen may_leave moment left_since count mid new engine1 engine2 run1 run2 (text_of login (done_at at cancelled x) text) result)

    does_here : (text : LiveText) (result : Storing) → Does text result → TextGoes seen may_leave moment left_since count mid new engine1 engine2 run1 run2 (the_text text) result
    does_here text result does = here (λ x. TextGoes seen may_leave moment left_since count mid new engine1 engine2 run1 run2 (text_of login (done_at at cancelled x) text) result) does

    grows_by : (text : List ℕ) (body : Body) → TextGoes seen may_leave moment left_since count mid new engine1 engine2 run1 run2 text (storing.Stored body) → Grows new engine2 run2 (text ∷ texts) (body ∷ bodies)
    grows_by text body t = record {
      same = t.still_open (λ e. cc) ∙ g.same;
      is_open = ap (λ (e : EngineState). e.log.closed) (t.still_open (λ e. cc)) ∙ g.is_open;
      next = sums run.next run1.next run2.next (pieces_size (length text)) (texts_pieces texts) t.places.1 g.next;
      placed = (t.places.0, g.placed);
      told = λ base h qs w. let x = g.told base h qs w in one_more (seen mid) (seen new) engine1 engine2 run1 run2 base h qs texts bodies x text body (t.told base h (qs ++ x.pieces) x.writing);
      any_moment = λ base h qs w. moment_on base h qs (λ more. t.any_moment base h more) w;
      goes_on = t.goes_on;
      keeps = stays_on t.keeps;
    }

    -- one text more
    pub grows_more : (text : LiveText) (result : Storing) (body : Body) → result ≡ storing.Stored body → Does text result → Grows new engine2 run2 (the_text text ∷ texts) (body ∷ bodies)
    grows_more text result body is does =
        grows_by (the_text text) body (subst (λ (r : Storing). TextGoes seen may_leave moment left_since count mid new engine1 engine2 run1 run2 (the_text text) r) is (does_here text result does))

    abbrev pub Ends : Storing → Type 0
    Ends result = ArchiveGoes seen may_leave moment left_since count old new engine engine2 run run2 login number cancelled at (ended_by result)

    fails_by : (text : List ℕ) (result : Storing) → ((body : Body) → result ≢ storing.Stored body) → texts_pieces texts + pieces_size (length text) ≤ archive_pieces the_texts
        → TextGoes seen may_leave moment left_since count mid new engine1 engine2 run1 run2 text result → Ends result
    fails_by text (storing.Stored body) missed few t = absurd (missed body refl)
    fails_by text storing.Full missed few t = record {
      places = subst (λ (n : ℕ). engine.log.limit < run.next + n + 1) (sym size_is)
          (lacks_all engine.log.limit engine1.log.limit run.next run1.next (texts_pieces texts) (pieces_size (length text)) (archive_pieces the_texts) (ap (λ (e : EngineState). e.log.limit) g.same) g.next t.places few);
      archive = λ base h qs w whole are. let x = g.told base h qs w in more_on (seen mid) (seen new) engine1 engine2 run1 run2 base h qs texts bodies x (t.told base h (qs ++ x.pieces) x.writing);
      any_moment = λ base h qs w. moment_on base h qs (λ more. t.any_moment base h more) w;
      goes_on = t.goes_on;
      keeps = stays_on t.keeps;
      still_open = λ e. t.still_open (λ e. cc) ∙ g.same;
      closed = λ e. cc;
      disk = λ e. cc;
    }
    fails_by text storing.SourceFault missed few t = absurd t.places
    fails_by text storing.Disk missed few t = record {
      places = tt;
      archive = λ base h qs w whole are. t.closed refl;
      any_moment = λ base h qs w. moment_on base h qs (λ more. t.any_moment base h more) w;
      goes_on = t.goes_on;
      keeps = stays_on t.keeps;
      still_open = λ e. absurd (e refl);
      closed = λ e. t.closed refl;
      disk = λ e. rose_on (count old) (count mid) (count new) g.keeps.faults (t.disk refl);
    }
    fails_by text storing.Memory missed few t = record {
      places = tt;
      archive = λ base h qs w whole are. let x = g.told base h qs w in more_on (seen mid) (seen new) engine1 engine2 run1 run2 base h qs texts bodies x (t.told base h (qs ++ x.pieces) x.writing);
      any_moment = λ base h qs w. moment_on base h qs (λ more. t.any_moment base h more) w;
      goes_on = t.goes_on;
      keeps = stays_on t.keeps;
      still_open = λ e. t.still_open (λ e. cc) ∙ g.same;
      closed = λ e. cc;
      disk = λ e. cc;
    }

    -- one that was not stored
    pub fails : (text : LiveText) (result : Storing) → ((body : Body) → result ≢ storing.Stored body) → texts_pieces texts + pieces_size (length (the_text text)) ≤ archive_pieces the_texts → Does text result → Ends result
    fails text result missed few does = fails_by (the_text text) result missed few (does_here text result does)

  -- all five
  pub grows_whole : (new : D) (engine' : EngineState) (run' : RunState) (err fail input status out : Body)
      → Grows new engine' run' (the_text live.Out ∷ the_text live.Status ∷ the_text live.In ∷ the_text live.Fail ∷ the_text live.Err ∷ []) (out ∷ status ∷ input ∷ fail ∷ err ∷ [])
      → ArchiveGoes seen may_leave moment left_since count old new engine engine' run run' login number cancelled at (archiving.Stored (record { err = err; fail = fail; input = input; status = status; out = out }))
  grows_whole new engine' run' err fail input status out g = record {
    places = (
      record { err = g.placed.1.1.1.1.0; fail = g.placed.1.1.1.0; input = g.placed.1.1.0; status = g.placed.1.0; out = g.placed.0 },
      g.next ∙ ap (λ (n : ℕ). run.next + n) (five (pieces_size (length (the_text live.Err))) (pieces_size (length (the_text live.Fail))) (pieces_size (length (the_text live.In))) (pieces_size (length (the_text live.Status))) (pieces_size (length (the_text live.Out)))
          ∙ sym size_is),
    );
    archive = λ base h qs w texts are. let x = g.told base h qs w in record {
      pieces = x.pieces;
      writing = x.writing;
      stands = record { err = x.stand.1.1.1.1.0.stored; fail = x.stand.1.1.1.0.stored; input = x.stand.1.1.0.stored; status = x.stand.1.0.stored; out = x.stand.0.stored };
      reads = (λ i. record { err = x.stand.1.1.1.1.0.reads i; fail = x.stand.1.1.1.0.reads i; input = x.stand.1.1.0.reads i; status = x.stand.1.0.reads i; out = x.stand.0.reads i }) ∙ texts_are texts are;
    };
    any_moment = g.any_moment;
    goes_on = g.goes_on;
    keeps = g.keeps;
    still_open = λ e. g.same;
    closed = λ e. cc;
    disk = λ e. cc;
  }
