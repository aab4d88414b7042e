-- The replies of the store.
use Rattle.std.specs.Prelude.{ℕ, List, [], ◌∷◌, ◌++◌, codes}
use Rattle.mt_types.specs.declared.live.LiveText.{LiveText}
use Rattle.mt_types.specs.declared.object.Field.{Field}
use Rattle.mt_types.specs.declared.object.Object.{Object}
use Rattle.mt_types.specs.declared.reply.Reply.{Reply}
use Rattle.mt_types.specs.declared.reply.ReplyBody.{ReplyBody}
use Rattle.mt_types.specs.declared.reply.ReplyBody.TheVariants.{Held, Part}
use Rattle.mt_error.specs.ErrorTable.{error_body, status_of_error}
use Rattle.mt_error.specs.declared.refused.Refused.{Refused}
use Rattle.mt_reply.specs.declared.stamp.Stamp.{Stamp}
use Rattle.mt_reply.specs.ReplyFields.{digest_field, etag_field, field, live_fields, modified_field, more_fields, number_field, object_fields, part_field, stamp_fields, stored_fields}

-- a page of a directory
abbrev pub page_type : List ℕ
page_type = codes "application/x-json-stream; type=directory"

module _ {B : Type 0} where
  -- a reply of this status with these fields and what every reply says
  abbrev pub reply_of : ℕ → Stamp → List Field → ReplyBody B → Reply B
  reply_of status stamp fields body = record { status = status; fields = fields ++ stamp_fields stamp; body = body; closes = stamp.closes }

  -- to what is done, and there is nothing more to say
  abbrev pub done_reply : Stamp → Reply B
  done_reply stamp = reply_of 204 stamp [] (Held [])

  -- to a put of an object or a link: the number, the moment and the digest of the new object
  abbrev pub stored_reply : Stamp → ℕ → ℕ → List ℕ → Reply B
  stored_reply stamp number mtime digest = reply_of 204 stamp (stored_fields number mtime digest) (Held [])

  -- to a GET of an object: all of its bytes, so many, of this digest
  abbrev pub object_reply : Stamp → Object B → List ℕ → ℕ → Reply B
  object_reply stamp o digest size = reply_of 200 stamp (digest_field (codes "content-md5") digest ∷ object_fields o) (Part o.body 0 size)

  -- to a GET of a part of an object of this size: the bytes from one place to before another
  abbrev pub part_reply : Stamp → Object B → ℕ → ℕ → ℕ → Reply B
  part_reply stamp o from to size = reply_of 206 stamp (part_field from to size ∷ object_fields o) (Part o.body from to)

  -- to a GET of an object of this number and moment that the reader has already
  abbrev pub unchanged_reply : Stamp → ℕ → ℕ → Reply B
  unchanged_reply stamp number mtime = reply_of 304 stamp (etag_field number ∷ modified_field mtime ∷ []) (Held [])

  -- to a GET of a directory: how many children it has, and the text of a page of them
  abbrev pub page_reply : Stamp → ℕ → List ℕ → Reply B
  page_reply stamp count text = reply_of 200 stamp (field (codes "content-type") page_type ∷ number_field (codes "result-set-size") count ∷ []) (Held text)

  -- to a POST that made a job, which is at this path
  abbrev pub made_reply : Stamp → List ℕ → Reply B
  made_reply stamp location = reply_of 201 stamp (field (codes "location") location ∷ []) (Held [])

  -- to what a job is asked to do by and by: to end its input, to be done
  abbrev pub taken_reply : Stamp → Reply B
  taken_reply stamp = reply_of 202 stamp [] (Held [])

  -- to a GET of a text of a job, which has so many lines
  abbrev pub live_reply : Stamp → LiveText → ℕ → List ℕ → Reply B
  live_reply stamp text count body = reply_of 200 stamp (live_fields text count) (Held body)

  -- to a request that is refused
  abbrev pub error_reply : Stamp → Refused → Reply B
  error_reply stamp r = reply_of (status_of_error r.code) stamp (field (codes "content-type") (codes "application/json") ∷ more_fields r.more) (Held (error_body r.code))
