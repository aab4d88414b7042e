-- A worked chain, and runs that are no chain.
use Rattle.std.proofs.Common.{◌≡◌, ℕ, suc, [], ◌++◌, codes, length, Some, refl, sym, ap, ◌∙◌, arith, length-append}
use Rattle.std.specs.Fmt.{digits}
use Rattle.std.specs.Str.{chars, is_utf8}
use Rattle.form_urlencoded.specs.Form.{raw_pairs, split}
use Rattle.percent_encoding.specs.Percent.{percent_decode}
use Rattle.mt_codec.specs.Fields.{path_spelling}
use Rattle.mt_codec.specs.Pieces.{spelled_size}
use Rattle.mt_codec.specs.Spelling.{spelling}
use Rattle.uuid.specs.Text.{by_index}
use Rattle.mt_answer.proofs.JobsTold.{outputs_told}
use Rattle.mt_answer.specs.Answer.{Answer, answer_in, rows_answer_of}
use Rattle.mt_answer.specs.Judging.{refusal_of}
use Rattle.mt_answer.specs.JobAnswer.{job_answer_of}
use Rattle.mt_answer.specs.Whole.{answer_asked, answer_of}
use Rattle.mt_bytes.specs.Decimals.{decimal_number}
use Rattle.mt_cond.specs.Conditions.{conditions_of, judged}
use Rattle.mt_cond.specs.Range.{range_in}
use Rattle.mt_headline.proofs.Headline.{not_refused}
use Rattle.mt_headline.specs.Headline.{IsReplyOf}
use Rattle.mt_headline.specs.Worked.{AnswersOldState, IsWorkedChain, ListsUncommitted, LosesCommand, LosesOwn, WorkedReplies, get_reply, put_reply, stale_reply, stored}
use Rattle.mt_ident.specs.Identifiers.{identifier_text}
use Rattle.mt_model.proofs.HonestWorked.{closed_is_honest}
use Rattle.mt_model.specs.CommandStep.{allowed, change, replay, step}
use Rattle.mt_model.specs.Finished.{live_out}
use Rattle.mt_model.specs.Honest.{HonestFrom}
use Rattle.mt_model.specs.State.{first_state, job_at}
use Rattle.mt_model.specs.Worked.{complete, halfway, map_job_after}
use Rattle.mt_opening.specs.History.{Bytes, History}
use Rattle.mt_path.specs.AccountPath.{path_text}
use Rattle.mt_path.specs.Names.{names_of, path_of, target_pieces, text_pieces}
use Rattle.mt_records.specs.Fate.{fate}
use Rattle.mt_request.specs.Puts.{object_late}
use Rattle.mt_request.specs.Query.{names_metadata, page_of, stand_in}
use Rattle.mt_request.specs.Requests.{asked_of}
use Rattle.mt_request.specs.Routes.{route_of}
use Rattle.mt_store.specs.Decisions.{put_decision, read_decision}
use Rattle.mt_types.specs.Limits.{is_plain_text}
use Rattle.mt_types.specs.declared.reply.ReplyBody.{ReplyBody}
use Rattle.mt_types.specs.declared.reply.ReplyBody.TheVariants.{Held, Part}
use Rattle.mt_types.specs.declared.task.Raw.{Raw}
use Rattle.mt_types.specs.declared.task.Run.{Run}

pub worked_replies : WorkedReplies
unfolding answer_of rows_answer_of answer_in refusal_of asked_of route_of path_of names_of target_pieces text_pieces path_text names_metadata page_of stand_in object_late conditions_of judged range_in put_decision read_decision is_plain_text decimal_number percent_decode is_utf8 chars lib.Utf8.encode spelled_size spelling path_spelling raw_pairs split allowed change replay step
worked_replies = record { put = refl; adds = refl; get = refl; gives = refl; nothing = refl }

module _ (gives : Run → Bytes → Raw → Type 0) where
  honest : HonestFrom (codes "l") gives (fate (codes "l")) first_state stored
  unfolding HonestFrom
  honest = (record { room = closed_is_honest.0.room; made = closed_is_honest.0.made; free = closed_is_honest.0.free; honest = tt }, tt)

  nothing_more : HonestFrom (codes "l") gives (fate (codes "l")) (replay first_state stored) []
  unfolding HonestFrom
  nothing_more = tt

  put_is : IsReplyOf (codes "l") gives [] stored put_reply
  put_is = record { answer = refl; from = ([], refl); durable = ([], ap (λ (h : History). h ++ []) worked_replies.adds) }

  get_is : (before : History) (p : (x : History) × (before ++ x ≡ stored)) → IsReplyOf (codes "l") gives before stored get_reply
  get_is before p = record { answer = refl; from = p; durable = ([], ap (λ (h : History). (stored ++ h) ++ []) worked_replies.nothing) }

  pub worked_chain : IsWorkedChain gives
  unfolding replay
  worked_chain c d has had = (
    record { added = stored; grew = refl; honest = honest; image = has; replies = (put_is, (get_is [] (stored, refl), tt)) },
    (record { added = []; grew = refl; honest = nothing_more; image = had; replies = (get_is stored ([], refl), tt) }, refl),
  )

-- ---- no chains

pub loses_command : (gives : Run → Bytes → Raw → Type 0) → LosesCommand gives
loses_command gives c d is = let n : ◌≡◌ {A = ℕ} 0 (suc (length is.1.0.added)) = ap length is.1.0.grew in absurd (omega (arith, n))

pub loses_own : (gives : Run → Bytes → Raw → Type 0) → LosesOwn gives
loses_own gives c is =
    let r = is.0.replies.0.durable in
    let n : length (put_reply.answer.added ++ r.0) ≡ 0 = ap length r.1 in
    let one : length put_reply.answer.added ≡ 1 = ap length worked_replies.adds in
    let both = length-append put_reply.answer.added r.0 in
    absurd (omega (arith, n, one, both))

stale_status : stale_reply.answer.reply.status ≡ 404
unfolding answer_of rows_answer_of answer_in refusal_of asked_of route_of path_of names_of target_pieces text_pieces path_text names_metadata page_of stand_in object_late conditions_of judged range_in put_decision read_decision is_plain_text decimal_number percent_decode is_utf8 chars lib.Utf8.encode spelled_size spelling path_spelling raw_pairs split allowed change replay step
stale_status = refl

pub answers_old_state : (gives : Run → Bytes → Raw → Type 0) → AnswersOldState gives
answers_old_state gives before after r =
    let same : stale_reply.answer.reply.status ≡ get_reply.answer.reply.status = ap (λ (a : Answer Bytes). a.reply.status) r.answer in
    let n : ◌≡◌ {A = ℕ} 404 200 = sym stale_status ∙ same ∙ worked_replies.get in
    absurd (omega (arith, n))

held : ReplyBody Bytes → Bytes
held (Held text) = text
held (Part body from to) = []

one_line : length (live_out (codes "l") (map_job_after halfway)) ≡ 91
unfolding allowed change replay step identifier_text by_index digits path_text
one_line = refl

two_lines : length (live_out (codes "l") (map_job_after complete)) ≡ 182
unfolding allowed change replay step identifier_text by_index digits path_text
two_lines = refl

there : job_at (replay first_state halfway).jobs 0x1000 ≡ Some (map_job_after halfway)
unfolding allowed change replay step identifier_text by_index digits
there = refl

pub lists_uncommitted : (gives : Run → Bytes → Raw → Type 0) → ListsUncommitted gives
unfolding answer_of held
lists_uncommitted gives before after r request at asks doing ok body is =
    let same : r.answer ≡ job_answer_of (codes "l") r.limit (replay first_state r.before) r.used r.head request r.body r.moment =
    is.answer ∙ ap (answer_asked (codes "l") r.limit (replay first_state r.before) r.used r.head r.body r.moment) asks in
    let there_too : job_at (replay first_state r.before).jobs 0x1000 ≡ Some (map_job_after halfway) = ap (λ (h : History). job_at (replay first_state h).jobs 0x1000) at ∙ there in
    let told = outputs_told (codes "l") r.limit (replay first_state r.before) r.used r.head request r.body r.moment 0x1000 (map_job_after halfway) doing there_too (not_refused (codes "l") gives r request same ok) in
    let texts : Held (live_out (codes "l") (map_job_after complete)) ≡ Held (live_out (codes "l") (map_job_after halfway)) = sym body ∙ (ap (λ (a : Answer Bytes). a.reply.body) same ∙ told.body) in
    let n : ◌≡◌ {A = ℕ} 182 91 = sym two_lines ∙ (ap (λ (b : ReplyBody Bytes). length (held b)) texts ∙ one_line) in
    absurd (omega (arith, n))
