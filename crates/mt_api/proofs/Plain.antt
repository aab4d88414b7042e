-- A call whose body isn't stored: its exits.
use Rattle.std.proofs.Common.{◌≡◌, ◌≢◌, ◌≤◌, ◌<◌, ℕ, ◌+◌, Bool, false, true, ◌&&◌, List, [], ◌∷◌, ◌++◌, length, Option, Some, None, refl, sym, ap, ◌∙◌, subst, append-nil, arith}
use Rattle.std.specs.Prelude.{◌-◌, if◌then◌else◌, is_some, min, nat_le, nat_lt, not, option_map}
use Rattle.std.proofs.lemmas.Bool.Decides.{nat_tests}
use Rattle.std.proofs.lemmas.Option.{same_Some}
use Rattle.md5.specs.Md5.{md5}
use Rattle.mt_answer.specs.Answer.{Answer, command_of, found_reply, link_reply, listing_reply, look_reply, range_reply, ranged_reply, reply_to}
use Rattle.mt_answer.specs.Judging.{account_refusal, is_put_object, len_of, md5_of, refusal_of, stored_len}
use Rattle.mt_answer.specs.Laws.{body_len}
use Rattle.mt_answer.proofs.Exits.{shown_read}
use Rattle.mt_answer.proofs.Order.{not_refused}
use Rattle.mt_body.specs.Stored.{IsStored, bytes_of, pieces_size, pieces_that_fit}
use Rattle.mt_body.proofs.Keeping.{length-bytes_of}
use Rattle.mt_cond.specs.Conditions.{judged}
use Rattle.mt_cond.specs.Range.{ranged}
use Rattle.mt_cond.specs.declared.conditions.Conditions.{Conditions}
use Rattle.mt_cond.specs.declared.conditions.Judged.{Judged}
use Rattle.mt_cond.specs.declared.conditions.Judged.TheVariants as says
use Rattle.mt_cond.specs.declared.range.Range.{Range}
use Rattle.mt_cond.specs.declared.range.Range.TheVariants as range
use Rattle.mt_cond.specs.declared.range.Ranged.{Ranged}
use Rattle.mt_cond.specs.declared.range.Ranged.TheVariants as part
use Rattle.mt_disk.specs.Files.{Files}
use Rattle.mt_disk.specs.CrashModel.{LeavesOnly}
use Rattle.mt_disk.proofs.Moments.{started}
use Rattle.mt_opening.specs.Current.{EngineState, IsBetween, IsCurrent, IsWriting, Serves}
use Rattle.mt_opening.specs.History.{Bytes, HasHistory, History}
use Rattle.mt_opening.proofs.Held.{Holding, holding_now, told_now}
use Rattle.mt_engine.proofs.Objects.{served_stored}
use Rattle.mt_error.specs.Refusals.{plain}
use Rattle.mt_error.specs.declared.code.ErrorCode.{ErrorCode}
use Rattle.mt_error.specs.declared.refused.Refused.{Refused}
use Rattle.mt_log.specs.LogImage.{Fit, payloads_of}
use Rattle.mt_log.specs.LogState.{Stands}
use Rattle.mt_log.specs.RunState.{RunState}
use Rattle.mt_log.proofs.Appended.{chosen_fit}
use Rattle.mt_log.proofs.Standing.{stands_leave}
use Rattle.mt_model.specs.CommandStep.{replay}
use Rattle.mt_model.specs.Rows.{at, object_at, object_in}
use Rattle.mt_model.specs.State.{State}
use Rattle.mt_model.proofs.Held.{state_weaker}
use Rattle.mt_path.specs.AccountPath.{AccountPath}
use Rattle.mt_reply.specs.Replies.{error_reply}
use Rattle.mt_reply.specs.declared.stamp.Stamp.{Stamp}
use Rattle.mt_request.specs.Digest.{digest_refusal}
use Rattle.mt_request.specs.Order.{first_of}
use Rattle.mt_request.specs.declared.query.Page.{Page}
use Rattle.mt_request.specs.declared.request.Doing.{Doing}
use Rattle.mt_request.specs.declared.request.Doing.TheVariants as doing
use Rattle.mt_store.specs.Decisions.{found_by, found_in, read_decision}
use Rattle.mt_types.specs.Values.{reply_with}
use Rattle.mt_types.specs.declared.body.Body.{Body}
use Rattle.mt_types.specs.declared.object.Entry.{Entry}
use Rattle.mt_types.specs.declared.object.Entry.TheVariants as entry
use Rattle.mt_types.specs.declared.object.Object.{Object}
use Rattle.mt_types.specs.declared.reply.Reply.{Reply}
use Rattle.mt_api.specs.Answered.{Asked, CanBeSent, IsShown, Shows, answer_at, left_behind, used}
use Rattle.mt_api.specs.Steps.{IsCallOf, IsPlain, IsReady, Replies, Settles, refusal}
use Rattle.mt_api.specs.declared.answered.Answered.{Answered}
use Rattle.mt_api.specs.declared.answered.Answered.TheVariants as answered
use Rattle.mt_api.specs.declared.call.Call.{Call}
use Rattle.mt_api.proofs.Adds.{sum_free}
use Rattle.mt_api.proofs.Ends.{between_same, refused_settles}
use Rattle.mt_api.proofs.Puts.{at_state, left_is, nothing_fits, refused_answer}

-- ---- a disk that isn't called

module _ {D : Type 0} (seen : D → Option Files) (may_leave : D → Files → Type 0) (moment : D → ℕ) (left_since : D → ℕ → Files → Type 0) (disk : D) (engine : EngineState) (base : State Bytes) (h : History)
    (stands : Stands seen may_leave disk engine.log) (i : IsCurrent (seen disk) engine base h) (only_now : (c : Files) → left_since disk (moment disk) c → may_leave disk c) where
  here : (c : Files) → may_leave disk c → HasHistory base h c
  here c left = record {
    ps = payloads_of i.is_read.files;
    read = stands_leave seen may_leave disk engine.log stands i.is_read.is_open i.version i.is_read.files i.is_read.seen_is c left;
    fit = subst Fit (sym ((stands i.is_read.is_open i.is_read.files i.is_read.seen_is).0 c left)) (chosen_fit i.is_read.files engine.log.file i.is_read.log.is_chosen);
    is = i.is_read.history;
  }

  pub idle : LeavesOnly moment left_since disk disk (IsBetween base h h)
  idle = started moment left_since disk (IsBetween base h h) (λ c left. between_same base h c (here c (only_now c left)))

-- ---- refusals

-- digests of which a request says the same
pub same_refusal : (engine : EngineState) (call : Call) (digest digest' : Option (List ℕ)) → digest_refusal call.request.wish digest ≡ digest_refusal call.request.wish digest' → refusal engine call digest ≡ refusal engine call digest'
unfolding refusal_of
same_refusal engine call digest digest' same =
    ap (λ (x : Option ErrorCode). first_of (call.request.early ∷ option_map plain x ∷ option_map plain call.request.late ∷ account_refusal len_of engine.state.rows call.conditions call.request.doing ∷ [])) same

and_true : (b : Bool) → b && true ≡ b
and_true true = refl
and_true false = refl

-- a put that isn't stored is refused
pub not_put : (engine : EngineState) (call : Call) (digest : List ℕ) → IsPlain engine call → refusal engine call (Some digest) ≡ None → is_put_object call.request.doing ≡ false
not_put engine call digest is none =
    sym (and_true (is_put_object call.request.doing))
    ∙ ap (λ (r : Option Refused). is_put_object call.request.doing && not (is_some r)) (sym (not_refused len_of call.request engine.state.rows call.conditions digest none)) ∙ is

no_put : false ≢ true
no_put is = cc

no_len : (d : Doing) (n : ℕ) → is_put_object d ≡ false → body_len d n ≡ 0
no_len d n is = ap (λ (b : Bool). if b then n else 0) is

module _ (seen : Option Files) (engine : EngineState) (base : State Bytes) (h : History) (i : IsCurrent seen engine base h) (asked : Asked) (call : Call) (e : IsCallOf asked engine call) (is_plain : IsPlain engine call) where
  ps : List (List ℕ)
  ps = payloads_of i.is_read.files

  holds : Holding (payloads_of i.is_read.files) engine.state base h
  holds = holding_now seen engine base h i

  stored_none : (n : ℕ) → stored_len len_of call.request engine.state.rows call.conditions n ≡ 0
  stored_none n = ap (λ (b : Bool). if b then n else 0) is_plain

  none_stays : (n : ℕ) → pieces_that_fit engine.log.limit (used engine) (stored_len len_of call.request engine.state.rows call.conditions n) ≡ 0
  none_stays n = ap (λ (m : ℕ). pieces_that_fit engine.log.limit (used engine) m) (stored_none n) ∙ nothing_fits engine.log.limit (used engine)

  -- nothing of its body stays
  pub plain_left : (bytes : Bytes) → used engine ≡ used engine + left_behind asked engine (replay base h) bytes
  plain_left bytes =
      omega (arith, left_is engine base h (payloads_of i.is_read.files) holds asked call e bytes, none_stays (length bytes))

  pub plain_refused : (result : Answered) (bytes : Bytes) (r : Refused) → refusal engine call (Some (md5 bytes)) ≡ Some r → Replies result (error_reply call.stamp r)
      → Settles result (answer_at asked engine (replay base h) bytes) (used engine) base h seen engine h
  plain_refused result bytes r is says =
      let answer = refused_answer engine base h (payloads_of i.is_read.files) holds asked call e bytes r is
      ∙ ap (λ (n : ℕ). record { reply = error_reply call.stamp r; added = []; grew = n }) (none_stays (length bytes)) in
      subst (λ (a : Answer Bytes). Settles result a (used engine) base h seen engine h) (sym answer)
      (refused_settles call.stamp r (used engine) 0 base h seen result engine says (λ n. i) (omega arith))

  -- what is looked at
  module _ (bytes : Bytes) (none : refusal engine call (Some (md5 bytes)) ≡ None) (body : Body) (sum : List ℕ) (no_command : command_of engine.state.rows call.request.doing body call.stamp.moment ≡ None) where
    shown : Answer Bytes
    shown = record {
      reply = reply_with (bytes_of (payloads_of i.is_read.files)) (reply_to len_of md5_of call.stamp engine.state.count engine.state.rows call.conditions call.request.doing (md5 bytes));
      added = [];
      grew = 0;
    }

    shown_is : answer_at asked engine (replay base h) bytes ≡ record {
      reply = reply_with (bytes_of (payloads_of i.is_read.files)) (reply_to len_of md5_of call.stamp engine.state.count engine.state.rows call.conditions call.request.doing (md5 bytes));
      added = [];
      grew = 0;
    }
    shown_is =
        let none' = subst (λ (x : Call). refusal engine x (Some (md5 bytes)) ≡ None) e.is none in
        let command' = subst (λ (x : Call). command_of engine.state.rows x.request.doing body x.stamp.moment ≡ None) e.is no_command in
        let digested = state_weaker (IsStored (payloads_of i.is_read.files)) (λ b. b.md5 ≡ md5 (bytes_of (payloads_of i.is_read.files) b)) (λ b at. at.digest) engine.state holds.stored in
        subst (λ (x : Call). answer_at asked engine (replay base h) bytes ≡ record {
          reply = reply_with (bytes_of (payloads_of i.is_read.files)) (reply_to len_of md5_of x.stamp engine.state.count engine.state.rows x.conditions x.request.doing (md5 bytes));
          added = [];
          grew = 0;
        }) (sym e.is)
        (at_state engine base h (payloads_of i.is_read.files) holds asked call e bytes
        ∙ shown_read (bytes_of (payloads_of i.is_read.files)) (length-bytes_of (payloads_of i.is_read.files)) call.request engine.log.limit engine.state (used engine) asked.head body bytes asked.moment digested none' command')

    same_sum : reply_to len_of md5_of call.stamp engine.state.count engine.state.rows call.conditions call.request.doing sum ≡ reply_to len_of md5_of call.stamp engine.state.count engine.state.rows call.conditions call.request.doing (md5 bytes)
    same_sum = sum_free call.stamp engine.state.count engine.state.rows call.conditions call.request.doing sum (md5 bytes) (λ put. absurd (no_put (sym (not_put engine call (md5 bytes) is_plain none) ∙ put)))

    pub looks : (result : Answered) → Replies result (reply_to len_of md5_of call.stamp engine.state.count engine.state.rows call.conditions call.request.doing sum)
        → Settles result (answer_at asked engine (replay base h) bytes) (used engine) base h seen engine h
    looks (answered.Replied reply) replied = record {
      history = sym (append-nil h) ∙ ap (λ (a : Answer Bytes). h ++ a.added) (sym shown_is);
      current = i;
      grew = omega (arith, ap (λ (a : Answer Bytes). a.grew) shown_is);
      shows = λ qs there. ap (λ (r : Reply Body). reply_with (bytes_of qs) r) (replied ∙ same_sum)
          ∙ ap (λ (x : List (List ℕ)). reply_with (bytes_of x) (reply_to len_of md5_of call.stamp engine.state.count engine.state.rows call.conditions call.request.doing (md5 bytes))) (same_Some _ _ (sym there ∙ told_now seen engine base h i))
          ∙ ap (λ (a : Answer Bytes). a.reply) (sym shown_is);
    }
    looks (answered.Unfinished x) replied = absurd replied
    looks answered.SourceFault replied = absurd replied
    looks answered.Disk replied = absurd replied
    looks answered.Memory replied = (refl, λ is_open. i)

  -- a run that has taken nothing is to end with a command
  pub ready : (run : RunState) (qs : List (List ℕ)) (body : Body) (bytes : Bytes) → IsWriting seen engine run base h qs → run ≡ record { next = engine.log.gate } → refusal engine call (Some (md5 bytes)) ≡ None
      → IsReady seen engine run base h qs call body bytes
  ready run qs body bytes w fresh none =
      let len = no_len call.request.doing (length bytes) (not_put engine call (md5 bytes) is_plain none) in
      record {
        writing = w;
        none = none;
        stored = λ put. absurd (no_put (sym (not_put engine call (md5 bytes) is_plain none) ∙ put));
        next = ap (λ (r : RunState). r.next + 1) fresh ∙ omega arith ∙ ap (λ (n : ℕ). used engine + pieces_size n) (sym len);
        fits = ap (λ (n : ℕ). pieces_that_fit engine.log.limit (used engine) n) len ∙ nothing_fits engine.log.limit (used engine) ∙ ap (λ (n : ℕ). pieces_size n) (sym len);
      }

-- ---- what is looked at can be sent

never_met : (from to : ℕ) → part.CannotMeet ≢ part.Part from to
never_met from to is = cc

never_whole : (from to : ℕ) → part.Whole ≢ part.Part from to
never_whole from to is = cc

by_test : (test : Bool) (p : Ranged) (from to : ℕ) → (if test then p else part.CannotMeet) ≡ part.Part from to → (test ≡ true) × (p ≡ part.Part from to)
by_test true p from to is = (refl, is)
by_test false p from to is = absurd (never_met from to is)

by_last : (none some : Bool) (p : Ranged) (from to : ℕ) → (if none then part.CannotMeet else (if some then p else part.Whole)) ≡ part.Part from to → p ≡ part.Part from to
by_last true some p from to is = absurd (never_met from to is)
by_last false true p from to is = is
by_last false false p from to is = absurd (never_whole from to is)

both : (a b : Bool) → a && b ≡ true → (a ≡ true) × (b ≡ true)
both true b is = (refl, is)
both false b is = absurd (no_put is)

from_is : (a b c d : ℕ) → part.Part a b ≡ part.Part c d → a ≡ c
from_is a b c d is = cc

to_is : (a b c d : ℕ) → part.Part a b ≡ part.Part c d → b ≡ d
to_is a b c d is = cc

between_within : (first last size from to : ℕ) → nat_le first last ≡ true → nat_lt first size ≡ true → first ≡ from → min last (size - 1) + 1 ≡ to → (from ≤ to) × (to ≤ size)
between_within first last size from to order less begin end =
    let a : first ≤ last = grind (arith, nat_tests) in
    let b : first < size = grind (arith, nat_tests) in
    (omega arith, omega arith)

-- a part lies within the object
ranged_within : (r : Range) (size from to : ℕ) → ranged r size ≡ part.Part from to → (from ≤ to) × (to ≤ size)
ranged_within (range.Between first last) size from to is =
    let t = by_test (nat_le first last && nat_lt first size) (part.Part first (min last (size - 1) + 1)) from to is in
    let tests = both (nat_le first last) (nat_lt first size) t.0 in
    between_within first last size from to tests.0 tests.1 (from_is first (min last (size - 1) + 1) from to t.1) (to_is first (min last (size - 1) + 1) from to t.1)
ranged_within (range.From first) size from to is =
    let t = by_test (nat_lt first size) (part.Part first size) from to is in
    let less : first < size = grind (arith, nat_tests, t.0) in
    (omega (arith, from_is first size from to t.1, to_is first size from to t.1), omega (arith, to_is first size from to t.1))
ranged_within (range.Last count) size from to is =
    let t = by_last (not (nat_lt 0 count)) (nat_lt 0 size) (part.Part (size - count) size) from to is in
    (omega (arith, from_is (size - count) size from to t, to_is (size - count) size from to t), omega (arith, to_is (size - count) size from to t))

module _ (seen : Option Files) (engine : EngineState) (serves : Serves seen engine) (is_open : engine.log.closed ≡ false) (stamp : Stamp) (c : Conditions) (p : AccountPath) (page : Option Page) where
  shown_at : (o : Object Body) (from to : ℕ) → object_at engine.state.rows p ≡ Some o → from ≤ to → to ≤ o.body.len → IsShown o.body from to seen engine
  shown_at o from to there order within = record {
    order = order;
    within = within;
    path = p;
    object = o;
    there = there;
    is = refl;
    stored = served_stored seen engine p o serves is_open there;
  }

  ranged_shown : (o : Object Body) (r : Ranged) → object_at engine.state.rows p ≡ Some o → ((from to : ℕ) → r ≡ part.Part from to → (from ≤ to) × (to ≤ o.body.len)) → Shows (ranged_reply len_of md5_of stamp o r).body seen engine
  ranged_shown o part.Whole there within = shown_at o 0 o.body.len there (omega arith) (omega arith)
  ranged_shown o (part.Part from to) there within = shown_at o from to there (within from to refl).0 (within from to refl).1
  ranged_shown o part.CannotMeet there within = tt

  range_shown : (o : Object Body) (r : Option Range) → object_at engine.state.rows p ≡ Some o → Shows (range_reply len_of md5_of stamp o r).body seen engine
  range_shown o None there = shown_at o 0 o.body.len there (omega arith) (omega arith)
  range_shown o (Some r) there = ranged_shown o (ranged r o.body.len) there (ranged_within r o.body.len)

  judged_shown : (o : Object Body) (r : Option Range) (j : Judged) → object_at engine.state.rows p ≡ Some o → Shows (found_reply len_of md5_of stamp engine.state.rows p page r (found_by j o)).body seen engine
  judged_shown o r says.Go there = range_shown o r there
  judged_shown o r says.NotModified there = tt
  judged_shown o r says.Failed there = tt

  page_shown : (x : Option Page) → Shows (listing_reply {B = Body} len_of stamp engine.state.rows p x).body seen engine
  page_shown None = tt
  page_shown (Some x) = tt

  entry_shown : (r : Option Range) (x : Option (Entry Body)) → at engine.state.rows p ≡ x → Shows (found_reply len_of md5_of stamp engine.state.rows p page r (found_in c x)).body seen engine
  entry_shown r None is = tt
  entry_shown r (Some (entry.Directory mtime)) is = page_shown page
  entry_shown r (Some (entry.Object o)) is = judged_shown o r (judged c (Some o) true) (ap object_in is)

  look_shown : (r : Option Range) → Shows (look_reply len_of md5_of stamp engine.state.rows c p page r).body seen engine
  unfolding read_decision
  look_shown r = entry_shown r (at engine.state.rows p) refl

link_shown : (seen : Option Files) (engine : EngineState) (stamp : Stamp) (o : Option (Object Body)) → Shows (link_reply {B = Body} md5_of stamp o).body seen engine
link_shown seen engine stamp None = tt
link_shown seen engine stamp (Some o) = tt

reply_shown : (seen : Option Files) (engine : EngineState) → Serves seen engine → engine.log.closed ≡ false → (stamp : Stamp) (c : Conditions) (d : Doing) (sum : List ℕ)
    → Shows (reply_to len_of md5_of stamp engine.state.count engine.state.rows c d sum).body seen engine
reply_shown seen engine serves is_open stamp c doing.Nothing sum = tt
reply_shown seen engine serves is_open stamp c (doing.PutObject p content_type durability metadata) sum = tt
reply_shown seen engine serves is_open stamp c (doing.PutDirectory p) sum = tt
reply_shown seen engine serves is_open stamp c (doing.PutLink p source) sum = link_shown seen engine stamp (object_at engine.state.rows source)
reply_shown seen engine serves is_open stamp c (doing.Remove p) sum = tt
reply_shown seen engine serves is_open stamp c (doing.Look p page r) sum = look_shown seen engine serves is_open stamp c p page r

-- the reply to what is looked at can be sent
pub looks_sends : (result : Answered) (seen : Option Files) (engine : EngineState) → Serves seen engine → engine.log.closed ≡ false → (stamp : Stamp) (c : Conditions) (d : Doing) (sum : List ℕ)
    → Replies result (reply_to len_of md5_of stamp engine.state.count engine.state.rows c d sum) → CanBeSent result seen engine
looks_sends (answered.Replied reply) seen engine serves is_open stamp c d sum is = subst (λ (r : Reply Body). Shows r.body seen engine) (sym is) (reply_shown seen engine serves is_open stamp c d sum)
looks_sends (answered.Unfinished e) seen engine serves is_open stamp c d sum is = tt
looks_sends answered.SourceFault seen engine serves is_open stamp c d sum is = tt
looks_sends answered.Disk seen engine serves is_open stamp c d sum is = tt
looks_sends answered.Memory seen engine serves is_open stamp c d sum is = tt
