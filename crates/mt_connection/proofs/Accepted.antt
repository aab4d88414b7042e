-- What a message adds is accepted from a client.
use Rattle.std.proofs.Common.{◌≡◌, ◌≤◌, ℕ, suc, Bool, true, false, List, [], ◌∷◌, ◌++◌, length, map, drop, Option, Some, None, refl, ap, sym, ◌∙◌, subst, arith, append-nil, append_assoc}
use Rattle.std.specs.Bool.{MatchBool}
use Rattle.std.specs.List.{AllByRecursion, cons_option, slice_get}
use Rattle.std.proofs.lemmas.List.{length-map}
use Rattle.mt_answer.specs.Answer.{Answer}
use Rattle.mt_answer.specs.Whole.{answer_of}
use Rattle.mt_answer.proofs.Steps.{honest_answer}
use Rattle.mt_answer.proofs.Whole.{one_command}
use Rattle.mt_opening.specs.History.{Bytes, History}
use Rattle.mt_http.specs.declared.message.Head.{Head}
use Rattle.mt_lives.specs.World.{Accept, Attempt, IsAttempt, Steps, World, ticket_of}
use Rattle.mt_model.specs.CommandStep.{replay}
use Rattle.mt_model.specs.Honest.{HonestFrom}
use Rattle.mt_model.specs.Lawful.{Lawful}
use Rattle.mt_model.specs.State.{State, first_state, job_at}
use Rattle.mt_model.specs.Tasks.{is_task}
use Rattle.mt_model.proofs.Replays.{replay_more, replay_on}
use Rattle.mt_types.specs.declared.job.Task.{Task}
use Rattle.mt_types.specs.declared.task.Fate.{Fate}
use Rattle.mt_types.specs.declared.task.Raw.{Raw}
use Rattle.mt_types.specs.declared.task.Run.{Run as ChildRun}
use Rattle.mt_runner.specs.Attempts.{number_of}
use Rattle.mt_runner.specs.Living.{AreAttempts, attempt_in, attempts_over, world_of}
use Rattle.mt_runner.specs.declared.runner.Started.{Started}
use Rattle.mt_runner.proofs.Worlds.{IsChild, attempts_stay, its_own}
use Rattle.mt_connection.specs.Accepted.{RequestsAreSteps, RequestsKeepChildren}
use Rattle.mt_connection.specs.Transcript.{Setting}
use Rattle.mt_connection.proofs.Clients.{AreClients, answers_of_clients}

abbrev world : ℕ → List Attempt → History → World
world named attempts h = record { history = h; named = named; attempts = attempts }

module _ (login : Bytes) (gives : ChildRun → Bytes → Raw → Type 0) (fate_of : Raw → Fate Bytes) where
  -- honest commands of clients are accepted, one behind the other
  pub all_accepted : (named : ℕ) (attempts : List Attempt) (h cs : History) → HonestFrom login gives fate_of (replay first_state h) cs → AreClients cs
      → Steps login gives fate_of (world named attempts h) (map Accept cs) (world named attempts (h ++ cs))
  unfolding HonestFrom
  all_accepted named attempts h [] honest own = ap (world named attempts) (append-nil h)
  all_accepted named attempts h (c ∷ cs) honest own = (
    world named attempts (h ++ c ∷ []),
    (own.0, honest.0, refl),
    subst (λ (k : History). Steps login gives fate_of (world named attempts (h ++ c ∷ [])) (map Accept cs) (world named attempts k)) (append_assoc h (c ∷ []) cs)
        (all_accepted named attempts (h ++ c ∷ []) cs (subst (λ (s : State Bytes). HonestFrom login gives fate_of s cs) (sym (replay_more first_state h c)) honest.1) own.1),
  )

  -- one command at most, which is honest and of a client
  record IsGood (s : State Bytes) (cs : History) : Type 0 where
    few : length cs ≤ 1
    honest : HonestFrom login gives fate_of s cs
    own : AreClients cs

  nothing_good : (s : State Bytes) → IsGood s []
  unfolding HonestFrom
  nothing_good s = record { few = omega arith; honest = tt; own = tt }

  answer_good : (knows : Bool) (limit : ℕ) (s : State Bytes) (used : ℕ) (head : Head) (body : Bytes) (moment : ℕ) (answer : Answer Bytes)
      → MatchBool knows (answer ≡ answer_of login limit s used head body moment) ((answer.added ≡ []) × (answer.grew ≡ 0)) → IsGood s answer.added
  answer_good true limit s used head body moment answer is =
      subst (λ (a : Answer Bytes). IsGood s a.added) (sym is) (record {
        few = one_command login limit s used head body moment;
        honest = honest_answer login gives fate_of login limit s used head body moment;
        own = answers_of_clients login limit s used head body moment;
      })
  answer_good false limit s used head body moment answer is = subst (IsGood s) (sym is.0) (nothing_good s)

  -- ---- the children that a runner keeps

  no_more : (s : State Bytes) (ks : List Started) → length (attempts_over login gives fate_of s ks) ≤ length ks
  no_more s [] = omega arith
  no_more s (k ∷ ks) = by (attempt_in login gives fate_of s k) (no_more s ks)
    where
      by : (o : Option Attempt) → length (attempts_over login gives fate_of s ks) ≤ length ks → length (cons_option o (attempts_over login gives fate_of s ks)) ≤ suc (length ks)
      by None few = omega (arith, few)
      by (Some a) few = omega (arith, few)

  -- those that are attempts, one each, are of tasks of their jobs
  are_children : (s : State Bytes) (ks : List Started) → map ticket_of (attempts_over login gives fate_of s ks) ≡ map number_of ks
      → AllByRecursion (IsAttempt login gives fate_of s) (attempts_over login gives fate_of s ks) → AllByRecursion (IsChild login gives fate_of s) ks
  are_children s [] same all = tt
  are_children s (k ∷ ks) same all = by (λ rest each. are_children s ks rest each) (attempt_in login gives fate_of s k) refl same all
    where
      by : (map ticket_of (attempts_over login gives fate_of s ks) ≡ map number_of ks → AllByRecursion (IsAttempt login gives fate_of s) (attempts_over login gives fate_of s ks) → AllByRecursion (IsChild login gives fate_of s) ks)
          → (o : Option Attempt) → attempt_in login gives fate_of s k ≡ o → map ticket_of (cons_option o (attempts_over login gives fate_of s ks)) ≡ number_of k ∷ map number_of ks
          → AllByRecursion (IsAttempt login gives fate_of s) (cons_option o (attempts_over login gives fate_of s ks)) → IsChild login gives fate_of s k × AllByRecursion (IsChild login gives fate_of s) ks
      by rest None is same all =
          let long = ap (λ (xs : List ℕ). length xs) same in
          let many = length-map (attempts_over login gives fate_of s ks) ticket_of in
          let all_of = length-map ks number_of in
          let few = no_more s ks in
          absurd (omega (arith, long, many, all_of, few))
      by rest (Some a) is same all =
          let task = (its_own login gives fate_of s k a is).1 in
          let i = all.0 in (
            record {
              job = i.job;
              phase = i.phase;
              found = subst (λ (t : Task). job_at s.jobs t.job ≡ Some i.job) task i.found;
              has = subst (λ (t : Task). slice_get i.job.document.phases t.phase ≡ Some i.phase) task i.has;
              task = subst (λ (t : Task). is_task i.job t.phase t.place ≡ true) task i.task;
            },
            rest (ap (drop 1) same) all.1,
          )

  -- behind one honest command at most they are the same attempts
  same_attempts : (h cs : History) (kept : List Started) → Lawful (replay first_state h) → IsGood (replay first_state h) cs → AreAttempts login gives fate_of (replay first_state h) kept
      → attempts_over login gives fate_of (replay first_state (h ++ cs)) kept ≡ attempts_over login gives fate_of (replay first_state h) kept
  unfolding HonestFrom
  same_attempts h [] kept law good are = ap (λ (k : History). attempts_over login gives fate_of (replay first_state k) kept) (append-nil h)
  same_attempts h (c ∷ []) kept law good are =
      ap (λ (s : State Bytes). attempts_over login gives fate_of s kept) (replay_more first_state h c)
      ∙ attempts_stay login gives fate_of (replay first_state h) c law good.honest.0.room good.honest.0.made good.honest.0.free kept (are_children (replay first_state h) kept are.tickets are.each)
  same_attempts h (c ∷ d ∷ cs) kept law good are = let few = good.few in absurd (omega (arith, few))

pub requests_are_steps : (s : Setting) → RequestsAreSteps s
requests_are_steps s earlier h used head body moment answer led is fate_of named attempts =
    let good = answer_good s.login s.runs fate_of s.knows s.limit (replay s.base h) used head body moment answer is in
    let there : replay first_state (earlier ++ h) ≡ replay s.base h = replay_on first_state earlier h ∙ ap (λ (t : State Bytes). replay t h) led in
    let steps = all_accepted s.login s.runs fate_of named attempts (earlier ++ h) answer.added (subst (λ (t : State Bytes). HonestFrom s.login s.runs fate_of t answer.added) (sym there) good.honest) good.own in
    (good.few, subst (λ (k : History). Steps s.login s.runs fate_of (world named attempts (earlier ++ h)) (map Accept answer.added) (world named attempts k)) (append_assoc earlier h answer.added) steps)

pub requests_keep_children : (s : Setting) → RequestsKeepChildren s
requests_keep_children s earlier h used head body moment answer led is fate_of named kept law are =
    let good = answer_good s.login s.runs fate_of s.knows s.limit (replay s.base h) used head body moment answer is in
    let there : replay s.base h ≡ replay first_state (earlier ++ h) = sym (replay_on first_state earlier h ∙ ap (λ (t : State Bytes). replay t h) led) in
    let steps = (requests_are_steps s earlier h used head body moment answer led is fate_of named (attempts_over s.login s.runs fate_of (replay first_state (earlier ++ h)) kept)).1 in
    let same = same_attempts s.login s.runs fate_of (earlier ++ h) answer.added kept (subst (λ (t : State Bytes). Lawful t) there law)
    (subst (λ (t : State Bytes). IsGood s.login s.runs fate_of t answer.added) there good) (subst (λ (t : State Bytes). AreAttempts s.login s.runs fate_of t kept) there are) in
    let behind = ap (λ (k : History). attempts_over s.login s.runs fate_of (replay first_state k) kept) (sym (append_assoc earlier h answer.added)) ∙ same in
    subst (λ (xs : List Attempt). Steps s.login s.runs fate_of (world_of s.login s.runs fate_of named (earlier ++ h) kept) (map Accept answer.added) (world named xs (earlier ++ (h ++ answer.added)))) (sym behind) steps
