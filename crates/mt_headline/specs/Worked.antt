-- A worked chain: a session of two messages whose disk is gone after the first reply, and the next run, which is asked the second message again. And runs that are no chain.
use Rattle.std.specs.Prelude.{◌≡◌, ℕ, [], ◌∷◌, codes, Some}
use Rattle.mt_answer.specs.Whole.{answer_of}
use Rattle.mt_disk.specs.Files.{Files}
use Rattle.mt_headline.specs.Headline.{Chain, IsReplyOf, Life, Reply}
use Rattle.mt_http.specs.declared.framing.Framing.TheVariants as framing
use Rattle.mt_http.specs.declared.message.Head.{Head}
use Rattle.mt_lives.specs.Lives.{HasWhole}
use Rattle.mt_model.specs.CommandStep.{replay}
use Rattle.mt_model.specs.Finished.{live_out}
use Rattle.mt_model.specs.State.{first_state}
use Rattle.mt_model.specs.Worked.{complete, halfway, in_stor, map_job_after, put}
use Rattle.mt_opening.specs.History.{Bytes, HasHistory, History}
use Rattle.mt_request.specs.Requests.{asked_of}
use Rattle.mt_request.specs.declared.asked.Asked.TheVariants as asked
use Rattle.mt_request.specs.declared.asked.JobRequest.{JobRequest}
use Rattle.mt_request.specs.declared.jobs.JobDoing.TheVariants as jobs
use Rattle.mt_types.specs.declared.live.LiveText.TheVariants as live
use Rattle.mt_types.specs.declared.object.Field.{Field}
use Rattle.mt_types.specs.declared.reply.ReplyBody.TheVariants.{Held, Part}
use Rattle.mt_types.specs.declared.task.Raw.{Raw}
use Rattle.mt_types.specs.declared.task.Run.{Run}

abbrev pub field : Bytes → Bytes → Field
field name value = record { name = name; value = value }

-- PUT /l/stor/a with five bytes, and GET of the same
abbrev pub put_head : Head
put_head = record {
  method = codes "PUT";
  target = codes "/l/stor/a";
  minor = 1;
  fields = field (codes "content-type") (codes "text/plain") ∷ field (codes "content-length") (codes "5") ∷ [];
  framing = framing.Length 5;
}

abbrev pub get_head : Head
get_head = record { method = codes "GET"; target = codes "/l/stor/a"; minor = 1; fields = []; framing = framing.Empty }

-- the command that the PUT adds
abbrev pub stored : History
stored = put (in_stor (codes "a")) (codes "hello") ∷ []

-- what this is answered after these commands, with a log of so many bytes
abbrev pub reply_to : History → ℕ → Head → Bytes → Reply
reply_to before used head body = record {
  before = before;
  limit = 1073741824;
  used = used;
  head = head;
  body = body;
  moment = 0;
  answer = answer_of (codes "l") 1073741824 (replay first_state before) used head body 0;
}

abbrev pub put_reply : Reply
put_reply = reply_to [] 9 put_head (codes "hello")

abbrev pub get_reply : Reply
get_reply = reply_to stored 100 get_head []

-- the two runs
abbrev pub first_life : Files → Life
first_life files = record { replies = put_reply ∷ get_reply ∷ []; after = stored; files = files }

abbrev pub second_life : Files → Life
second_life files = record { replies = get_reply ∷ []; after = stored; files = files }

-- what the replies say
pub record WorkedReplies : Type 0 where
  pub put : put_reply.answer.reply.status ≡ 204
  pub adds : put_reply.answer.added ≡ stored
  pub get : get_reply.answer.reply.status ≡ 200
  pub gives : get_reply.answer.reply.body ≡ Part (codes "hello") 0 5
  pub nothing : get_reply.answer.added ≡ []

-- after the PUT the GET is answered as if nothing were there
abbrev pub stale_reply : Reply
stale_reply = record get_reply { answer = answer_of (codes "l") 1073741824 first_state 100 get_head [] 0 }

-- whatever commands may give
module _ (gives : Run → Bytes → Raw → Type 0) where
  -- over files that hold the command the two runs are a chain
  abbrev pub IsWorkedChain : Type 0
  IsWorkedChain = (c d : Files) → HasWhole HasHistory stored c → HasWhole HasHistory stored d → Chain (codes "l") gives [] (first_life c ∷ second_life d ∷ []) stored

  -- ---- no chains

  -- the second run leaves files without the command that the first one reported
  abbrev pub LosesCommand : Type 0
  LosesCommand = (c d : Files) → ¬ (Chain (codes "l") gives [] (first_life c ∷ record { replies = []; after = []; files = d } ∷ []) [])

  -- so does the first run
  abbrev pub LosesOwn : Type 0
  LosesOwn = (c : Files) → ¬ (Chain (codes "l") gives [] (record { replies = put_reply ∷ []; after = []; files = c } ∷ []) [])

  -- the GET is answered as before the PUT
  abbrev pub AnswersOldState : Type 0
  AnswersOldState = (before after : History) → ¬ (IsReplyOf (codes "l") gives before after stale_reply)

  -- of a job whose first task is committed, live/out lists the output of the second one too
  abbrev pub ListsUncommitted : Type 0
  ListsUncommitted = (before after : History) (r : Reply) (request : JobRequest) → r.before ≡ halfway
      → asked_of (codes "l") r.head ≡ asked.Jobs request → request.doing ≡ jobs.LookLive (Some 0x1000) live.Out
      → r.answer.reply.status ≡ 200 → r.answer.reply.body ≡ Held (live_out (codes "l") (map_job_after complete))
      → ¬ (IsReplyOf (codes "l") gives before after r)
