use Rattle.std.proofs.Common.{◌≡◌, drop}
use Rattle.std.specs.Prelude.{filter, fold}
use Rattle.mt_http.specs.ReplyText.{placed}
use Rattle.mt_request.specs.Metadata.{is_metadata_field, metadata_of}
use Rattle.mt_request.proofs.metadata.metadata_of.Given as goal

-- the fields of metadata that are left are placed among those so far
abbrev pub invariant-loop-field : goal.invariant-loop-field
invariant-loop-field l = fold (λ sorted f. placed f sorted) l.out.items (filter is_metadata_field (drop l.field-index l.fields)) ≡ metadata_of l.fields
