-- A history that is honest, and others that are not.
use Rattle.std.proofs.Common.{◌≡◌, ℕ, true, false, List, [], ◌∷◌, ◌++◌, refl, sym, ap, ◌∙◌, arith, length, map}
use Rattle.std.specs.Prelude.{codes, reverse, get_or}
use Rattle.std.specs.Fmt.{digits}
use Rattle.std.specs.Option.{unwrap_or}
use Rattle.uuid.specs.Text.{by_index}
use Rattle.std.proofs.lemmas.List.Elements.{All-nil, All-cons}
use Rattle.std.proofs.lemmas.Str.{IsUtf8-from_ascii}
use Rattle.mt_ident.specs.Identifiers.{identifier_text}
use Rattle.mt_path.specs.AccountPath.{IsComponent, IsPath, path_text}
use Rattle.mt_types.specs.WellMade.{IsDocument}
use Rattle.mt_types.specs.declared.command.Command.TheVariants.{Cancel, Close, Finish}
use Rattle.mt_types.specs.declared.command.Command.{Command}
use Rattle.mt_types.specs.declared.job.Item.{Item}
use Rattle.mt_types.specs.declared.task.Fate.{Fate}
use Rattle.mt_types.specs.declared.task.Fate.TheVariants.{Good}
use Rattle.mt_types.specs.declared.task.Made.TheVariants.{Whole}
use Rattle.mt_types.specs.declared.task.Raw.{Raw}
use Rattle.mt_types.specs.declared.task.TaskRecord.TheVariants.{Emit}
use Rattle.mt_model.specs.CommandStep.{allowed, change, replay, step}
use Rattle.mt_model.specs.Feed.{feed}
use Rattle.mt_model.specs.Finished.{IsMeant, is_finished, live_out, outputs_of, recorded}
use Rattle.mt_model.specs.Honest.{Bytes, Honest, HonestFrom, IsStep, itself}
use Rattle.mt_model.specs.Meaning.{PhasesMean}
use Rattle.mt_model.specs.Tasks.{input_of}
use Rattle.mt_model.specs.Worked.{after, begun, cat, cat_gives, closed, commit, complete, finished, judged, line, map_job_after, out_of, stor, texts, wrote}
use Rattle.mt_model.proofs.Finished.{finished_jobs_mean}
use Rattle.mt_model.proofs.Words.{IsAscii-from_test}

abbrev hello : Raw
hello = record { status = 0; stderr = []; made = Whole (codes "hello") [] }

-- ---- its paths and its document

a_is_component : IsComponent (codes "a")
a_is_component = record {
  some = omega arith;
  short = omega arith;
  text = IsUtf8-from_ascii (codes "a") (IsAscii-from_test (codes "a") refl);
  clear = refl;
  no_dot = λ e. cc;
  no_dots = λ e. cc;
}

none_is_component : IsComponent (codes "none")
none_is_component = record {
  some = omega arith;
  short = omega arith;
  text = IsUtf8-from_ascii (codes "none") (IsAscii-from_test (codes "none") refl);
  clear = refl;
  no_dot = λ e. cc;
  no_dots = λ e. cc;
}

a_is_path : IsPath (stor (codes "a" ∷ []))
a_is_path = record { components = All-cons IsComponent (codes "a") [] a_is_component (All-nil IsComponent); short = omega arith }

none_is_path : IsPath (stor (codes "none" ∷ []))
none_is_path = record { components = All-cons IsComponent (codes "none") [] none_is_component (All-nil IsComponent); short = omega arith }

is_document : IsDocument (record { name = []; phases = cat ∷ [] })
is_document = record {
  some = omega arith;
  few = omega arith;
  phases = (record { kind = tt; exec = refl; init = tt; few = omega arith; assets = tt }, tt);
}

-- ---- the history

-- what is committed is what a child may give
abbrev IsNext : Command Bytes → Type 0
IsNext c = IsStep (codes "l") cat_gives judged (after complete) c

ends_honest : (c : Command Bytes) → IsNext c → Honest (codes "l") cat_gives judged (complete ++ c ∷ [])
unfolding HonestFrom allowed change replay step identifier_text by_index digits
ends_honest c last = (
  record { room = omega arith; made = a_is_path; free = refl; honest = tt },
  (
    record { room = omega arith; made = is_document; free = refl; honest = tt },
    (
      record { room = omega arith; made = (a_is_path, (a_is_path, (none_is_path, tt))); free = refl; honest = tt },
      (
        record { room = omega arith; made = (omega arith, (tt, tt)); free = refl; honest = record { of_phase = cat; raw = hello; has = refl; given = refl; judged = refl } },
        (
          record { room = omega arith; made = tt; free = refl; honest = tt },
          (
            record { room = omega arith; made = (omega arith, (tt, tt)); free = refl; honest = record { of_phase = cat; raw = hello; has = refl; given = refl; judged = refl } },
            (last, tt),
          ),
        ),
      ),
    ),
  ),
)

pub closed_is_honest : Honest (codes "l") cat_gives judged closed
unfolding allowed change replay step identifier_text by_index digits
closed_is_honest = ends_honest (Close 0x1000 false texts 0) (record { room = omega arith; made = tt; free = refl; honest = tt })

pub finished_is_honest : Honest (codes "l") cat_gives judged finished
unfolding allowed change replay step identifier_text by_index digits
finished_is_honest = ends_honest (Finish 0x1000 0) (record { room = omega arith; made = tt; free = refl; honest = tt })

pub closed_is_meant : IsMeant (codes "l") cat_gives judged closed (map_job_after closed)
unfolding allowed change replay step identifier_text by_index digits
closed_is_meant = finished_jobs_mean (codes "l") cat_gives judged closed closed_is_honest (map_job_after closed) (0, omega arith, refl) refl

pub finished_is_meant : IsMeant (codes "l") cat_gives judged finished (map_job_after finished)
unfolding allowed change replay step identifier_text by_index digits
finished_is_meant = finished_jobs_mean (codes "l") cat_gives judged finished finished_is_honest (map_job_after finished) (0, omega arith, refl) refl

-- ---- what is not honest, and not meant

body_of : Fate Bytes → Bytes
body_of (Good (Emit place reducer body ∷ rs)) = body
body_of f = []

differ : codes "bye" ≡ codes "hello" → ⊥
differ e = let n : ◌≡◌ {A = ℕ} 3 5 = ap length e in absurd (omega (arith, n))

pub invented : Honest (codes "l") cat_gives judged (begun ++ commit 0x1000 0 0 (wrote (codes "bye")) ∷ []) → ⊥
unfolding HonestFrom allowed change replay step identifier_text by_index digits body_of
invented h =
    let c = h.1.1.1.0.honest in
    let p : c.of_phase ≡ cat = ap (λ o. unwrap_or o c.of_phase) (sym c.has) in
    let gave = c.given in
    let made : out_of c.raw.made ≡ input_of itself c.of_phase.kind (feed (map_job_after begun) 0) 0 = ap (λ r. out_of r.made) gave in
    let read : out_of c.raw.made ≡ codes "hello" = made ∙ ap (λ x. input_of itself x.kind (feed (map_job_after begun) 0) 0) p in
    let bye : codes "bye" ≡ out_of c.raw.made = ap body_of c.judged in
    let both : codes "bye" ≡ codes "hello" = bye ∙ read in
    differ both

pub done : map is_finished (map map_job_after (complete ∷ finished ∷ closed ∷ (begun ++ Cancel 0x1000 0 ∷ []) ∷ [])) ≡ false ∷ true ∷ true ∷ false ∷ []
unfolding allowed change replay step identifier_text by_index digits
done = refl

pub listing : live_out (codes "l") (map_job_after closed) ≡
    line (codes "/l/jobs/00000002-0000-8000-8000-000000001000/stor/a.0.00000003-0000-8000-8000-000000003000")
    ++ line (codes "/l/jobs/00000002-0000-8000-8000-000000001000/stor/a.0.00000003-0000-8000-8000-000000005000")
unfolding allowed change replay step identifier_text by_index digits path_text
listing = refl

-- the digit in which the two names differ, of the first item
abbrev first_digit : List (Item Bytes) → ℕ
first_digit items = get_or (map (λ i. get_or (get_or i.name.parts 2 []) 36 0) items) 0 0

pub other_order : PhasesMean (map_job_after closed).document.phases (map_job_after closed).inputs (recorded (map_job_after closed)) (reverse (outputs_of (map_job_after closed))) → ⊥
unfolding allowed change replay step identifier_text by_index digits
other_order m = let e : ◌≡◌ {A = ℕ} 51 53 = ap first_digit m.2 in absurd (omega (arith, e))
