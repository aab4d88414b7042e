-- What is copied out is the text that the UUID was encoded to.
use Rattle.std.proofs.Common.{sym, refl}
use Rattle.uuid.proofs.TextLemmas.{by_index_length}
use Rattle.mt_ident.specs.Identifiers.{identifier_text}
use Rattle.mt_ident.proofs.IdentifierTexts.{bytes_of-identifier_text, IsAscii-identifier_text}
use Rattle.mt_ident.proofs.identifiers.uuid_text.Goals as goal

pub copy_from_slice-requires : goal.copy_from_slice-requires
copy_from_slice-requires c = rw (c.as_bytes.ensures.value, c.encode_lower-text.ensures.text) (sym (by_index_length 36 _))

pub returns-clause-text : goal.returns-clause-text
unfolding identifier_text
returns-clause-text c = rw (c.copy_from_slice.ensures.after, c.as_bytes.ensures.value, c.encode_lower-text.ensures.text, c.hyphenated.ensures, c.from_u64_pair-id.ensures) refl

pub returns-clause-bytes : goal.returns-clause-bytes
returns-clause-bytes c = rw (returns-clause-text c) (bytes_of-identifier_text c.args.kind c.args.number)

pub returns-clause-ascii : goal.returns-clause-ascii
returns-clause-ascii c = rw (returns-clause-text c) (IsAscii-identifier_text c.args.kind c.args.number)
