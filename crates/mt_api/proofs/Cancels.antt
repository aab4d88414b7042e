-- A job that is cancelled: its texts and their room.
use Rattle.std.proofs.Common.{◌≡◌, ◌⊎◌, ◌≤◌, ◌<◌, ℕ, ◌+◌, Bool, false, true, inl, inr, List, ◌++◌, length, Option, Some, None, refl, sym, ap, ◌∙◌, arith, true≢false}
use Rattle.std.specs.Prelude.{is_some, nat_le, nat_lt, option_map, IsTrue}
use Rattle.std.specs.Option.{option_map_or}
use Rattle.std.proofs.lemmas.Bool.{le-leb}
use Rattle.std.proofs.lemmas.Bool.Decides.{nat_tests}
use Rattle.md5.specs.Md5.{md5}
use Rattle.mt_answer.specs.JobAnswer.{archive_asked, archive_size, brought_size, job_command_of, job_growth, refuse_job}
use Rattle.mt_answer.specs.Judging.{len_of}
use Rattle.mt_answer.specs.Posting.{posted_of}
use Rattle.mt_body.specs.Growth.{archive_pieces, growth}
use Rattle.mt_body.specs.Stored.{pieces_size}
use Rattle.mt_body.proofs.Keeping.{length-bytes_of}
use Rattle.mt_base.specs.declared.limits.TheConstants.{LAST_MOMENT}
use Rattle.mt_codec.specs.Pieces.{spelled_size}
use Rattle.mt_codec.specs.Spelling.{FitsArchive, IsWithinLimits}
use Rattle.mt_disk.specs.Files.{Files}
use Rattle.mt_opening.specs.Current.{EngineState}
use Rattle.mt_opening.specs.History.{Bytes, History}
use Rattle.mt_opening.proofs.Held.{Holding}
use Rattle.mt_engine.specs.Accepting.{HasRoomFor}
use Rattle.mt_engine.specs.Archiving.{AreTextsOf, ArchiveIn, texts_size}
use Rattle.mt_error.specs.Refusals.{plain}
use Rattle.mt_error.specs.declared.code.ErrorCode.TheVariants as error
use Rattle.mt_jobtext.specs.JobTexts.{archive_of}
use Rattle.mt_log.specs.RunState.{RunState}
use Rattle.mt_model.specs.CommandStep.{replay}
use Rattle.mt_model.specs.Bodies.{OfArchive}
use Rattle.mt_model.specs.JobSteps.{done_at}
use Rattle.mt_model.specs.State.{State, job_at}
use Rattle.mt_request.specs.declared.jobs.JobDoing.{JobDoing}
use Rattle.mt_types.specs.Limits.{is_number, is_placed}
use Rattle.mt_types.specs.declared.body.Body.{Body}
use Rattle.mt_types.specs.declared.command.Archive.{Archive}
use Rattle.mt_types.specs.declared.command.Command.{Command}
use Rattle.mt_types.specs.declared.command.Command.TheVariants.{Close}
use Rattle.mt_types.specs.declared.job.Job.{Job}
use Rattle.mt_types.specs.declared.limits.TheConstants.{MOST_COMMANDS}
use Rattle.mt_api.specs.Answered.{Asked, answer_at, used}
use Rattle.mt_api.specs.Jobs.{CancelsJob, IsJobCallOf, JobIsReady, job_refusal}
use Rattle.mt_api.specs.declared.call.JobCall.{JobCall}
use Rattle.mt_api.proofs.Jobs.{job_full}

-- the record of a close is as long, whatever its bodies are
close_size : {A B : Type 0} (job : ℕ) (a : Archive A) (b : Archive B) (moment : ℕ) → spelled_size (Close job true a moment) ≡ spelled_size (Close job true b moment)
unfolding spelled_size
close_size job a b moment = refl

-- five bodies that are placed fit
pub archive_fits : (a : Archive Body) → OfArchive (λ b. IsTrue (is_placed b)) a → FitsArchive false a
archive_fits a p = record {
  err = record { placed = p.err; first = tt; len = tt };
  fail = record { placed = p.fail; first = tt; len = tt };
  input = record { placed = p.input; first = tt; len = tt };
  status = record { placed = p.status; first = tt; len = tt };
  out = record { placed = p.out; first = tt; len = tt };
}

-- and the command that has them is within its limits
pub close_limits : (job moment : ℕ) (a : Archive Body) → IsTrue (is_number job) → FitsArchive false a → moment ≤ LAST_MOMENT → IsWithinLimits (Close job true a moment)
close_limits job moment a number fits most = record { moment = le-leb moment LAST_MOMENT most; fields = (number, fits) }

-- room for it is room for any
pub room_any : (engine : EngineState) (pieces job moment : ℕ) (blank : Archive Body) → HasRoomFor engine pieces (Close job true blank moment) → (a : Archive Body) → HasRoomFor engine pieces (Close job true a moment)
room_any engine pieces job moment blank has a = record { few = has.few; fits = let x = has.fits in omega (arith, x, close_size job blank a moment) }

lacks_by : (engine : EngineState) (pieces : ℕ) (c : Command Body) (a b : Bool) → nat_lt engine.state.count MOST_COMMANDS ≡ a → nat_le (engine.log.gate + 1 + growth pieces c) engine.log.limit ≡ b → ¬ (HasRoomFor engine pieces c)
    → (MOST_COMMANDS ≤ engine.state.count) ⊎ (engine.log.limit < engine.log.gate + 1 + growth pieces c)
lacks_by engine pieces c true true few fits not = absurd (not (record { few = grind (arith, nat_tests); fits = grind (arith, nat_tests) }))
lacks_by engine pieces c false b few fits not = inl (grind (arith, nat_tests))
lacks_by engine pieces c true false few fits not = inr (grind (arith, nat_tests))

-- no room
pub lacks : (engine : EngineState) (pieces : ℕ) (c : Command Body) → ¬ (HasRoomFor engine pieces c) → (MOST_COMMANDS ≤ engine.state.count) ⊎ (engine.log.limit < engine.log.gate + 1 + growth pieces c)
lacks engine pieces c = lacks_by engine pieces c (nat_lt engine.state.count MOST_COMMANDS) (nat_le (engine.log.gate + 1 + growth pieces c) engine.log.limit) refl refl

found_of : (o : Option (Job Body)) → is_some o ≡ true → (j : Job Body) × (o ≡ Some j)
found_of None is = absurd (true≢false (sym is))
found_of (Some j) is = (j, refl)

module _ (login : List ℕ) (engine : EngineState) (call : JobCall) (job : ℕ) (c : CancelsJob engine call job) where
  pub there : (j : Job Body) × (job_at engine.state.jobs job ≡ Some j)
  there = found_of (job_at engine.state.jobs job) c.found

  abbrev moment : ℕ
  moment = call.stamp.moment

  -- the texts that it brings
  abbrev pub texts : Archive (List ℕ)
  texts = archive_of login (done_at call.stamp.moment true there.0)

  pub texts_are : archive_asked login engine.state call.request.doing call.stamp.moment ≡ Some texts
  texts_are =
      ap (λ (d : JobDoing). archive_asked login engine.state d call.stamp.moment) c.is
      ∙ ap (λ (o : Option (Job Body)). option_map (λ j. archive_of login (done_at call.stamp.moment true j)) o) there.1

  pub are_texts : AreTextsOf login engine job true call.stamp.moment texts
  are_texts = ap (λ (o : Option (Job Body)). option_map (λ j. archive_of login (done_at call.stamp.moment true j)) o) there.1

  pieces_are : texts_size login engine job true call.stamp.moment ≡ archive_pieces texts
  pieces_are = ap (λ (o : Option (Job Body)). option_map_or (λ j. archive_pieces (archive_of login (done_at call.stamp.moment true j))) o 0) there.1

  command_is : {B : Type 0} (a : Archive B) (bytes : Bytes) → job_command_of call.request.doing (posted_of login call.request.doing bytes) (Some a) call.stamp.moment ≡ Some (Close job true a call.stamp.moment)
  command_is a bytes = ap (λ (d : JobDoing). job_command_of d (posted_of login call.request.doing bytes) (Some a) call.stamp.moment) c.is

  asked_command : (bytes : Bytes) → job_command_of call.request.doing (posted_of login call.request.doing bytes) (archive_asked login engine.state call.request.doing call.stamp.moment) call.stamp.moment ≡ Some (Close job true texts call.stamp.moment)
  asked_command bytes =
      ap (λ (o : Option (Archive (List ℕ))). job_command_of call.request.doing (posted_of login call.request.doing bytes) o call.stamp.moment) texts_are ∙ command_is texts bytes

  -- it has no room
  module _ (asked : Asked) (e : IsJobCallOf login asked engine call) (base : State Bytes) (h : History) (qs : List (List ℕ)) (holds : Holding qs engine.state base h) (bytes : Bytes)
      (none : job_refusal engine call.request (posted_of login call.request.doing bytes) (Some (md5 bytes)) ≡ None) (blank : Archive Body) where
    lacks_texts : (MOST_COMMANDS ≤ engine.state.count) ⊎ (engine.log.limit < engine.log.gate + 1 + growth (texts_size login engine job true call.stamp.moment) (Close job true blank call.stamp.moment))
        → (MOST_COMMANDS ≤ engine.state.count) ⊎ (engine.log.limit < used engine + job_growth length (archive_asked login engine.state call.request.doing call.stamp.moment) (Close job true texts call.stamp.moment))
    lacks_texts (inl many) = inl many
    lacks_texts (inr over) =
        let brought : brought_size length (archive_asked login engine.state call.request.doing call.stamp.moment) ≡ archive_pieces texts = ap (λ (o : Option (Archive (List ℕ))). brought_size length o) texts_are in
        inr (omega (arith, over, brought, pieces_are, close_size job blank texts call.stamp.moment))

    pub cancel_full : (MOST_COMMANDS ≤ engine.state.count) ⊎ (engine.log.limit < engine.log.gate + 1 + growth (texts_size login engine job true call.stamp.moment) (Close job true blank call.stamp.moment))
        → answer_at asked engine (replay base h) bytes ≡ refuse_job call.stamp (plain error.NotEnoughSpace)
    cancel_full full = job_full login asked engine call e base h qs holds bytes none (Close job true texts call.stamp.moment) (asked_command bytes) (lacks_texts full)

  -- its texts are in a run
  module _ (seen' : Option Files) (run run' : RunState) (base : State Bytes) (h : History) (qs : List (List ℕ)) (a : Archive Body) (stored : ArchiveIn texts a seen' engine run' base h qs) where
    abbrev ps : List (List ℕ)
    ps = qs ++ stored.pieces

    size_as : archive_size len_of a ≡ archive_pieces texts
    size_as =
        let err = ap (λ (t : Archive (List ℕ)). pieces_size (length t.err)) stored.reads in
        let fail = ap (λ (t : Archive (List ℕ)). pieces_size (length t.fail)) stored.reads in
        let input = ap (λ (t : Archive (List ℕ)). pieces_size (length t.input)) stored.reads in
        let status = ap (λ (t : Archive (List ℕ)). pieces_size (length t.status)) stored.reads in
        let out = ap (λ (t : Archive (List ℕ)). pieces_size (length t.out)) stored.reads in
        let len_err = ap pieces_size (length-bytes_of (qs ++ stored.pieces) a.err) in
        let len_fail = ap pieces_size (length-bytes_of (qs ++ stored.pieces) a.fail) in
        let len_input = ap pieces_size (length-bytes_of (qs ++ stored.pieces) a.input) in
        let len_status = ap pieces_size (length-bytes_of (qs ++ stored.pieces) a.status) in
        let len_out = ap pieces_size (length-bytes_of (qs ++ stored.pieces) a.out) in
        let errs : pieces_size a.err.len ≡ pieces_size (length texts.err) = sym len_err ∙ err in
        let fails : pieces_size a.fail.len ≡ pieces_size (length texts.fail) = sym len_fail ∙ fail in
        let inputs : pieces_size a.input.len ≡ pieces_size (length texts.input) = sym len_input ∙ input in
        let statuses : pieces_size a.status.len ≡ pieces_size (length texts.status) = sym len_status ∙ status in
        let outs : pieces_size a.out.len ≡ pieces_size (length texts.out) = sym len_out ∙ out in
        ap (λ n. n + pieces_size a.fail.len + pieces_size a.input.len + pieces_size a.status.len + pieces_size a.out.len) errs
        ∙ ap (λ n. pieces_size (length texts.err) + n + pieces_size a.input.len + pieces_size a.status.len + pieces_size a.out.len) fails
        ∙ ap (λ n. pieces_size (length texts.err) + pieces_size (length texts.fail) + n + pieces_size a.status.len + pieces_size a.out.len) inputs
        ∙ ap (λ n. pieces_size (length texts.err) + pieces_size (length texts.fail) + pieces_size (length texts.input) + n + pieces_size a.out.len) statuses
        ∙ ap (λ n. pieces_size (length texts.err) + pieces_size (length texts.fail) + pieces_size (length texts.input) + pieces_size (length texts.status) + n) outs

    pub cancel_ready : (bytes : Bytes) → job_refusal engine call.request (posted_of login call.request.doing bytes) (Some (md5 bytes)) ≡ None → run ≡ record { next = engine.log.gate }
        → run'.next ≡ run.next + texts_size login engine job true call.stamp.moment → ((b : Archive Body) → HasRoomFor engine (texts_size login engine job true call.stamp.moment) (Close job true b call.stamp.moment))
        → JobIsReady seen' engine run' base h (qs ++ stored.pieces) login call (Some a) (Close job true a call.stamp.moment) bytes
    cancel_ready bytes none fresh next room = record {
      writing = stored.writing;
      none = none;
      is = command_is a bytes;
      brings = ap (λ (t : Archive (List ℕ)). Some t) stored.reads ∙ sym texts_are;
      stored = stored.stands;
      next = omega (arith, next, ap (λ (r : RunState). r.next) fresh, pieces_are, size_as);
      room = λ is. let has = room a in let x = has.fits in record { few = has.few; fits = omega (arith, x, pieces_are, size_as) };
    }
