-- The headline holds of each chain of runs.
use Rattle.std.proofs.Common.{◌≡◌, ℕ, ◌+◌, suc, ◌==◌, Bool, true, false, cond, arith, List, [], ◌∷◌, ◌++◌, length, Option, Some, None, refl, sym, ap, ◌∙◌, subst, append_assoc, append-nil, length-append}
use Rattle.std.specs.List.{AllByRecursion, Contains, find}
use Rattle.std.proofs.lemmas.Option.{same_Some}
use Rattle.md5.specs.Md5.{md5}
use Rattle.mt_answer.proofs.JobsTold.{outputs_told}
use Rattle.mt_answer.specs.Answer.{Answer, stamp_of}
use Rattle.mt_answer.specs.JobAnswer.{job_answer_of}
use Rattle.mt_answer.specs.JobJudging.{job_refusal_of}
use Rattle.mt_answer.specs.JobLaws.{IsTold}
use Rattle.mt_answer.specs.Posting.{posted_of}
use Rattle.mt_answer.specs.Whole.{answer_asked, answer_of}
use Rattle.mt_base.specs.Lists.{IsPrefixOf}
use Rattle.mt_error.specs.declared.refused.Refused.{Refused}
use Rattle.mt_headline.proofs.Position.{positions_are_named}
use Rattle.mt_headline.proofs.Refusals.{refused_jobs_are_errors}
use Rattle.mt_headline.specs.Headline.{Chain, ChainsMeetHeadline, IsAnswer, IsKept, IsReplyOf, Life, ListsOutputs, NamesPosition, Reply, reported}
use Rattle.mt_headline.specs.Position.{HasPosition}
use Rattle.mt_model.proofs.Finished.{finished_jobs_mean}
use Rattle.mt_model.proofs.LawfulHistories.{lawful_honest}
use Rattle.mt_model.proofs.Stood.{honest_on, short_honest}
use Rattle.mt_model.specs.CommandStep.{replay, step}
use Rattle.mt_model.specs.Finished.{live_out}
use Rattle.mt_model.specs.Honest.{Honest, HonestFrom}
use Rattle.mt_model.specs.State.{State, first_state}
use Rattle.mt_opening.specs.History.{Bytes, History}
use Rattle.mt_records.specs.Fate.{fate}
use Rattle.mt_reply.specs.ReplyFields.{stamp_fields}
use Rattle.mt_request.specs.declared.asked.JobRequest.{JobRequest}
use Rattle.mt_types.specs.declared.task.Raw.{Raw}
use Rattle.mt_types.specs.declared.task.Run.{Run}

through : (a b c : History) → IsPrefixOf a b → IsPrefixOf b c → IsPrefixOf a c
through a b c p q = (p.0 ++ q.0, sym (append_assoc a p.0 q.0) ∙ (ap (λ x. x ++ q.0) p.1 ∙ q.1))

count-replay : (s : State Bytes) (h : History) → (replay s h).count ≡ s.count + length h
unfolding replay step
count-replay s [] = omega arith
count-replay s (d ∷ h) = let more = count-replay (step s d) h in omega (arith, more)

-- what is found is there
found : {X : Type 0} → (test : X → Bool) → (xs : List X) → (x : X) → find test xs ≡ Some x → Contains xs x
found test [] x is = absurd (cc)
found {X} test (y ∷ ys) x is = by (test y) (found test ys x) is
  where
    by : (b : Bool) → (find test ys ≡ Some x → Contains ys x) → cond {A = Option X} b (Some y) (find test ys) ≡ Some x → Contains (y ∷ ys) x
    by true rest here = (0, omega arith, same_Some _ _ here)
    by false rest later = let more = rest later in (suc more.0, omega (arith, more.1), more.2)

module _ (login : Bytes) (gives : Run → Bytes → Raw → Type 0) where
  whole : (before after : History) (ls : List Life) → Chain login gives before ls after → Honest login gives (fate login) before → Honest login gives (fate login) after
  whole before after [] is all = subst (Honest login gives (fate login)) (sym is) all
  whole before after (l ∷ ls) is all =
      whole l.after after ls is.1 (subst (Honest login gives (fate login)) (sym is.0.grew) (honest_on login gives (fate login) first_state before is.0.added all is.0.honest))

  grows : (before after : History) (ls : List Life) → Chain login gives before ls after → IsPrefixOf before after
  grows before after [] is = ([], append-nil before ∙ sym is)
  grows before after (l ∷ ls) is = through before l.after after (is.0.added, sym is.0.grew) (grows l.after after ls is.1)

  front_is_honest : (a h : History) → IsPrefixOf a h → Honest login gives (fate login) h → Honest login gives (fate login) a
  front_is_honest a h p all = short_honest login gives (fate login) first_state a p.0 (subst (Honest login gives (fate login)) (sym p.1) all)

  -- what was not refused has no refusal
  pub not_refused : (r : Reply) (request : JobRequest) → r.answer ≡ job_answer_of login r.limit (replay first_state r.before) r.used r.head request r.body r.moment → r.answer.reply.status ≡ 200
      → job_refusal_of length request (replay first_state r.before) (posted_of login request.doing r.body) (Some (md5 r.body)) ≡ None
  not_refused r request is ok = by (job_refusal_of length request (replay first_state r.before) (posted_of login request.doing r.body) (Some (md5 r.body))) refl
    where
      by : (o : Option Refused) → job_refusal_of length request (replay first_state r.before) (posted_of login request.doing r.body) (Some (md5 r.body)) ≡ o → o ≡ None
      by None refused = refl
      by (Some x) refused =
          let above = refused_jobs_are_errors login r.limit (replay first_state r.before) r.used r.head request r.body r.moment x refused in
          let same : (job_answer_of login r.limit (replay first_state r.before) r.used r.head request r.body r.moment).reply.status ≡ 200 = sym (ap (λ (a : Answer Bytes). a.reply.status) is) ∙ ok in
          absurd (omega (arith, above, same))

  lists : (r : Reply) → IsAnswer login gives r → Honest login gives (fate login) r.before → ListsOutputs login gives r
  unfolding answer_of
  lists r is all request n job asks doing there done ok =
      let same : r.answer ≡ job_answer_of login r.limit (replay first_state r.before) r.used r.head request r.body r.moment = is ∙ ap (answer_asked login r.limit (replay first_state r.before) r.used r.head r.body r.moment) asks in (
        subst (λ (a : Answer Bytes). IsTold a (live_out login job)) (sym same)
            (outputs_told login r.limit (replay first_state r.before) r.used r.head request r.body r.moment n job doing there (not_refused r request same ok)),
        finished_jobs_mean login gives (fate login) r.before all job (found (λ j. j.number == n) (replay first_state r.before).jobs job there) done,
      )

  position_of : (r : Reply) → IsAnswer login gives r → NamesPosition r
  position_of r is =
      let s : State Bytes = replay first_state r.before in
      let names = subst (λ (a : Answer Bytes). HasPosition s r.head r.moment a) (sym is) (positions_are_named login r.limit s r.used r.head r.body r.moment) in
      let start = count-replay first_state r.before in
      let both = length-append r.before r.answer.added in
      let counts = names.counts in
      let number : names.position ≡ length (r.before ++ r.answer.added) = omega (arith, start, both, counts) in
      (names.front, names.fields ∙ ap (λ (n : ℕ). names.front ++ stamp_fields (stamp_of r.head n r.moment)) number)

  kept : (before after h : History) (rs : List Reply) → IsPrefixOf after h → Honest login gives (fate login) h → AllByRecursion (IsReplyOf login gives before after) rs → AllByRecursion (IsKept login gives h) rs
  kept before after h [] p all said = tt
  kept before after h (r ∷ rs) p all said =
      let stays = through (reported r) after h said.0.durable p in (
        record {
          answer = said.0.answer;
          position = position_of r said.0.answer;
          kept = stays;
          outputs = lists r said.0.answer (front_is_honest r.before h (through r.before (reported r) h (r.answer.added, refl) stays) all);
        },
        kept before after h rs p all said.1,
      )

  all_kept : (before after : History) (ls : List Life) → Chain login gives before ls after → Honest login gives (fate login) after → AllByRecursion (λ l. AllByRecursion (IsKept login gives after) l.replies) ls
  all_kept before after [] is all = tt
  all_kept before after (l ∷ ls) is all = (kept before l.after after l.replies (grows l.after after ls is.1) all is.0.replies, all_kept l.after after ls is.1 all)

  pub chains_meet_headline : ChainsMeetHeadline login gives
  unfolding HonestFrom
  chains_meet_headline ls h is =
      let all = whole [] h ls is tt in
      record {
        replies = all_kept [] h ls is all;
        honest = all;
        lawful = lawful_honest login gives (fate login) h all;
        jobs = finished_jobs_mean login gives (fate login) h all;
      }
