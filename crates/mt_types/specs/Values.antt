-- The same values over other bodies: what stays is all but the bodies, and each body goes to another.
use Rattle.std.specs.Prelude.{map}
use Rattle.mt_types.specs.declared.command.Archive.{Archive}
use Rattle.mt_types.specs.declared.command.Command.{Command}
use Rattle.mt_types.specs.declared.command.Command.TheVariants.{Put, MakeDirectory, Link, Delete, NewJob, AddInputs, EndInput, Commit, Finish, Cancel, Close, NewUpload, PutPart, CommitUpload, AbortUpload}
use Rattle.mt_types.specs.declared.job.Item.{Item}
use Rattle.mt_types.specs.declared.job.Job.{Job}
use Rattle.mt_types.specs.declared.job.Outcome.{Outcome}
use Rattle.mt_types.specs.declared.job.Outcome.TheVariants as outcome
use Rattle.mt_types.specs.declared.job.TraceEntry.{TraceEntry}
use Rattle.mt_types.specs.declared.object.Entry.{Entry}
use Rattle.mt_types.specs.declared.object.Entry.TheVariants as entry
use Rattle.mt_types.specs.declared.object.Object.{Object}
use Rattle.mt_types.specs.declared.reply.Reply.{Reply}
use Rattle.mt_types.specs.declared.reply.ReplyBody.{ReplyBody}
use Rattle.mt_types.specs.declared.reply.ReplyBody.TheVariants.{Held, Part}
use Rattle.mt_types.specs.declared.task.Fate.{Fate}
use Rattle.mt_types.specs.declared.task.Fate.TheVariants as fate
use Rattle.mt_types.specs.declared.task.TaskRecord.{TaskRecord}
use Rattle.mt_types.specs.declared.task.TaskRecord.TheVariants.{Emit, Keep, Ref}
use Rattle.mt_types.specs.declared.upload.PartRow.{PartRow}
use Rattle.mt_types.specs.declared.upload.Upload.{Upload}

module _ {A B : Type 0} (f : A → B) where
  -- an object
  abbrev pub object_with : Object A → Object B
  object_with o = record { number = o.number; body = f o.body; content_type = o.content_type; durability = o.durability; metadata = o.metadata; mtime = o.mtime }

  -- what stands at a path
  abbrev pub entry_with : Entry A → Entry B
  entry_with (entry.Directory mtime) = entry.Directory mtime
  entry_with (entry.Object object) = entry.Object (object_with object)

  -- an item of a feed
  abbrev pub item_with : Item A → Item B
  item_with i = record { name = i.name; root = i.root; body = f i.body; reducer = i.reducer }

  -- a record of a task
  abbrev pub record_with : TaskRecord A → TaskRecord B
  record_with (Emit place reducer body) = Emit place reducer (f body)
  record_with (Keep place body) = Keep place (f body)
  record_with (Ref name) = Ref name

  -- the fate of a task
  abbrev pub fate_with : Fate A → Fate B
  fate_with (fate.Good records) = fate.Good (map record_with records)
  fate_with (fate.Bad failure status stderr) = fate.Bad failure status stderr

  -- the outcome of a committed task
  abbrev pub outcome_with : Outcome A → Outcome B
  outcome_with (outcome.Good items) = outcome.Good (map item_with items)
  outcome_with (outcome.Bad failure status stderr) = outcome.Bad failure status stderr

  -- a committed task
  abbrev pub trace_entry_with : TraceEntry A → TraceEntry B
  trace_entry_with e = record { phase = e.phase; place = e.place; position = e.position; outcome = outcome_with e.outcome }

  -- a job
  abbrev pub job_with : Job A → Job B
  job_with j = record {
    number = j.number;
    document = j.document;
    assets = map (map f) j.assets;
    inputs = map item_with j.inputs;
    missing = j.missing;
    ended = j.ended;
    cancelled = j.cancelled;
    created = j.created;
    done = j.done;
    trace = map trace_entry_with j.trace;
  }

  -- the archive of a job
  abbrev pub archive_with : Archive A → Archive B
  archive_with a = record { err = f a.err; fail = f a.fail; input = f a.input; status = f a.status; out = f a.out }

  -- a part of an upload
  abbrev pub part_with : PartRow A → PartRow B
  part_with p = record { index = p.index; number = p.number; body = f p.body }

  -- an upload
  abbrev pub upload_with : Upload A → Upload B
  upload_with u = record { number = u.number; path = u.path; content_type = u.content_type; moment = u.moment; parts = map part_with u.parts; stage = u.stage }

  -- a command
  abbrev pub command_with : Command A → Command B
  command_with (Put path content_type body durability metadata moment) = Put path content_type (f body) durability metadata moment
  command_with (MakeDirectory path moment) = MakeDirectory path moment
  command_with (Link path source moment) = Link path source moment
  command_with (Delete path moment) = Delete path moment
  command_with (NewJob document moment) = NewJob document moment
  command_with (AddInputs job lines moment) = AddInputs job lines moment
  command_with (EndInput job moment) = EndInput job moment
  command_with (Commit job phase place fate moment) = Commit job phase place (fate_with fate) moment
  command_with (Finish job moment) = Finish job moment
  command_with (Cancel job moment) = Cancel job moment
  command_with (Close job cancelled archive moment) = Close job cancelled (archive_with archive) moment
  command_with (NewUpload path content_type moment) = NewUpload path content_type moment
  command_with (PutPart upload index body moment) = PutPart upload index (f body) moment
  command_with (CommitUpload upload parts body moment) = CommitUpload upload parts (f body) moment
  command_with (AbortUpload upload moment) = AbortUpload upload moment

  -- the body of a reply
  abbrev pub reply_body_with : ReplyBody A → ReplyBody B
  reply_body_with (Held bytes) = Held bytes
  reply_body_with (Part body from to) = Part (f body) from to

  -- a reply
  abbrev pub reply_with : Reply A → Reply B
  reply_with r = record { status = r.status; fields = r.fields; body = reply_body_with r.body; closes = r.closes }
