-- Sending a reply whose body is a part of one in the log.
use Rattle.std.proofs.Common.{◌≡◌, ℕ, ◌-◌, ◌≤◌, ◌<◌, List, [], ◌++◌, length, take, drop, replicate, Option, Some, None, Bool, true, refl, ap, sym, ◌∙◌, arith, append-nil, append_assoc, length-append, cond, inl, inr}
use Rattle.std.specs.Prelude.{◌⊎◌}
use Rattle.std.proofs.lemmas.List.{length-drop, length-replicate, length-take-le}
use Rattle.mt_body.specs.Stored.{bytes_of}
use Rattle.mt_body.proofs.Keeping.{length-bytes_of}
use Rattle.mt_disk.specs.Files.{Files}
use Rattle.mt_base.specs.Counts.{NeverFell, Rose}
use Rattle.mt_edge.specs.Stream.{WritesFront}
use Rattle.mt_edge.proofs.Streams.{got_nothing}
use Rattle.mt_opening.specs.History.{Bytes}
use Rattle.mt_http.specs.ReplyText.{head_text}
use Rattle.mt_http.specs.declared.message.Head.{Head}
use Rattle.mt_log.specs.LogImage.{payloads_of}
use Rattle.mt_types.specs.declared.body.Body.{Body}
use Rattle.mt_types.specs.declared.object.Field.{Field}
use Rattle.mt_types.specs.declared.reply.Reply.{Reply}
use Rattle.mt_types.specs.declared.reply.ReplyBody.{ReplyBody}
use Rattle.mt_types.specs.declared.reply.ReplyBody.TheVariants.{Held, Part}
use Rattle.mt_connection.specs.Steps.{CanBeRead, IsBodyOf, Sends, text_to}
use Rattle.mt_connection.specs.Transcript.{is_bare}
use Rattle.mt_connection.specs.declared.end.ConnectionEnd.{ConnectionEnd}
use Rattle.mt_connection.specs.declared.end.ConnectionEnd.TheVariants as ended
use Rattle.mt_connection.specs.declared.end.Step.{Step}
use Rattle.mt_connection.specs.declared.end.Step.TheVariants as step

abbrev or_none : Option (List (List ℕ)) → List (List ℕ)
or_none None = []
or_none (Some ps) = ps

-- a part has so many bytes
pub some_bytes : (seen : Option Files) (body : Body) (from to : ℕ) → from ≤ to → to ≤ body.len → (bytes : Bytes) × IsBodyOf seen (Part body from to) bytes
some_bytes None body from to order within = (replicate (to - from) 0, (length-replicate (to - from) 0, λ ps is. let no : None ≡ Some ps = is in absurd (cc)))
some_bytes (Some files) body from to order within =
    let all = length-bytes_of (payloads_of files) body in
    let behind = length-drop from (bytes_of (payloads_of files) body) in
    let fits : to - from ≤ length (drop from (bytes_of (payloads_of files) body)) = omega (arith, all, behind, order, within) in
    (take (to - from) (drop from (bytes_of (payloads_of files) body)), (length-take-le (to - from) (drop from (bytes_of (payloads_of files) body)) fits, λ ps is. ap (λ qs. take (to - from) (drop from (bytes_of (or_none qs) body))) is))

-- a reply that can be read has a body
pub some_body : (seen : Option Files) (body : ReplyBody Body) → CanBeRead seen body → (bytes : Bytes) × IsBodyOf seen body bytes
some_body seen (Held bytes) shown = (bytes, refl)
some_body seen (Part body from to) shown = some_bytes seen body from to shown.0 shown.1

-- no reply is empty
pub some_text : (status : ℕ) (fields : List Field) (closes : Bool) (n : ℕ) (rest : Bytes) → 0 < length (head_text status fields closes n ++ rest)
unfolding head_text
some_text status fields closes n rest = omega arith

-- nothing was written
pub wrote_nothing : (got : Option Bytes) (text : Bytes) → 0 < length text → WritesFront got text got
wrote_nothing got text some = record { written = []; front = (text, refl); short = some; grew = got_nothing got }

-- a reply whose body could not be read is not sent
pub unread : (closing : Bool) (reply : Reply Body) (bytes : Bytes) (head : Head) (end : ConnectionEnd) (got : Option Bytes) (w d d' : ℕ) → NeverFell d d'
    → (end ≡ ended.Memory) ⊎ ((end ≡ ended.Disk) × Rose d d') → Sends closing (text_to reply bytes head) (step.Over end) got got w w d d'
unread closing reply bytes head end got w d d' fell (inl is) = rw is (refl, omega arith, fell)
unread closing reply bytes head end got w d d' fell (inr is) =
    rw is.0 (wrote_nothing got (text_to reply bytes head) (some_text reply.status reply.fields reply.closes (length bytes) _), omega arith, is.1)

-- a front of a text is one of what goes on from it
pub front_of_more : (got : Option Bytes) (text more : Bytes) (got' : Option Bytes) → WritesFront got text got' → WritesFront got (text ++ more) got'
front_of_more got text more got' w = record {
  written = w.written;
  front = (w.front.0 ++ more, sym (append_assoc w.written w.front.0 more) ∙ ap (λ (t : Bytes). t ++ more) w.front.1);
  short = let all = length-append text more in let few = w.short in omega (arith, all, few);
  grew = w.grew;
}

-- the text of a reply that has no body
pub bare_text : (reply : Reply Body) (bytes : Bytes) (head : Head) (n : ℕ) → length bytes ≡ n → is_bare reply.status head ≡ true → text_to reply bytes head ≡ head_text reply.status reply.fields reply.closes n
bare_text reply bytes head n size bare =
    ap (λ (b : Bool). head_text reply.status reply.fields reply.closes (length bytes) ++ cond {A = List ℕ} b [] bytes) bare
    ∙ (append-nil (head_text reply.status reply.fields reply.closes (length bytes)) ∙ ap (head_text reply.status reply.fields reply.closes) size)

-- sending lets no count of the disk fall
pub sends_on : (closing : Bool) (text : Bytes) (is : Step) (got got' : Option Bytes) (w w' d d' : ℕ) → Sends closing text is got got' w w' d d' → NeverFell d d'
sends_on closing text (step.Went closed) got got' w w' d d' sent = sent.3
sends_on closing text (step.Over ended.SinkFault) got got' w w' d d' sent = sent.2
sends_on closing text (step.Over ended.Disk) got got' w w' d d' sent = let rose = sent.2 in omega (arith, rose)
sends_on closing text (step.Over ended.Memory) got got' w w' d d' sent = sent.2
sends_on closing text (step.Over ended.Ended) got got' w w' d d' sent = absurd sent
sends_on closing text (step.Over ended.Many) got got' w w' d d' sent = absurd sent
sends_on closing text (step.Over ended.Truncated) got got' w w' d d' sent = absurd sent
sends_on closing text (step.Over ended.Refused) got got' w w' d d' sent = absurd sent
sends_on closing text (step.Over ended.SourceFault) got got' w w' d d' sent = absurd sent
sends_on closing text (step.Over ended.Full) got got' w w' d d' sent = elim sent [ ]
