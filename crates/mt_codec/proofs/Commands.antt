-- The form of commands: what is decoded is spelled so, and what is spelled so is decoded.
use Rattle.std.proofs.Common.{◌≡◌, ℕ, Bool, true, List, [], ◌∷◌, ◌++◌, Option, Some, None, refl, arith}
use Rattle.mt_path.specs.AccountPath.{AccountPath}
use Rattle.mt_types.specs.declared.body.Body.{Body}
use Rattle.mt_types.specs.declared.object.Field.{Field}
use Rattle.mt_types.specs.declared.document.JobDocument.{JobDocument}
use Rattle.mt_types.specs.declared.document.InputLine.{InputLine}
use Rattle.mt_types.specs.declared.task.Fate.{Fate}
use Rattle.mt_types.specs.declared.command.Archive.{Archive}
use Rattle.mt_types.specs.declared.command.Command.{Command}
use Rattle.mt_types.specs.declared.command.Command.TheVariants.{Put, MakeDirectory, Link, Delete, NewJob, AddInputs, EndInput, Commit, Finish, Cancel, Close, NewUpload, PutPart, CommitUpload, AbortUpload}
use Rattle.mt_codec.specs.Spelling.{is_marked, spelling, HasSpelling, undigested}
use Rattle.mt_types.specs.Limits.{FitsMetadata}
use Rattle.mt_codec.specs.Reading.{choice, nothing}
use Rattle.mt_codec.specs.Readers.{has_marks, put_at, marked_put_at, make_directory_at, link_at, delete_at, new_job_at, add_inputs_at, end_input_at, commit_at, finish_at, cancel_at, close_at, new_upload_at, put_part_at, commit_upload_at, abort_upload_at, upload_command_at, job_command_at, command_at}
use Rattle.mt_codec.proofs.Forms.{IsBytes, Took, both_form, made_again, variant_takes, choice_takes, nothing_takes, tested_form, two_form, four_form, eight_form, list_form}
use Rattle.mt_codec.proofs.Known.{moment_form, job_form, index_form, durability_form, content_type_form, path_form, body_form, metadata_form, flag_form}
use Rattle.mt_codec.proofs.JobForms.{document_form, line_form, fate_form, archive_form}

abbrev CommandTook : List ℕ → Command Body → List ℕ → Type 0
CommandTook = Took spelling HasSpelling undigested

no_metadata : FitsMetadata []
no_metadata = record { few = omega arith; each = tt; all = refl }

-- ---- the fields of each command, and the command of these fields

abbrev put_of : ((ℕ × AccountPath) × List ℕ) × Body → Command Body
put_of p = Put p.0.0.1 p.0.1 p.1 None [] p.0.0.0

abbrev marked_of : ((((ℕ × AccountPath) × List ℕ) × Option ℕ) × List Field) × Body → Command Body
marked_of p = Put p.0.0.0.0.1 p.0.0.0.1 p.1 p.0.0.1 p.0.1 p.0.0.0.0.0

abbrev make_directory_of : ℕ × AccountPath → Command Body
make_directory_of p = MakeDirectory p.1 p.0

abbrev link_of : (ℕ × AccountPath) × AccountPath → Command Body
link_of p = Link p.0.1 p.1 p.0.0

abbrev delete_of : ℕ × AccountPath → Command Body
delete_of p = Delete p.1 p.0

abbrev new_job_of : ℕ × JobDocument → Command Body
new_job_of p = NewJob p.1 p.0

abbrev add_inputs_of : (ℕ × ℕ) × List InputLine → Command Body
add_inputs_of p = AddInputs p.0.1 p.1 p.0.0

abbrev end_input_of : ℕ × ℕ → Command Body
end_input_of p = EndInput p.1 p.0

abbrev commit_of : (((ℕ × ℕ) × ℕ) × ℕ) × Fate Body → Command Body
commit_of p = Commit p.0.0.0.1 p.0.0.1 p.0.1 p.1 p.0.0.0.0

abbrev finish_of : ℕ × ℕ → Command Body
finish_of p = Finish p.1 p.0

abbrev cancel_of : ℕ × ℕ → Command Body
cancel_of p = Cancel p.1 p.0

abbrev close_of : ((ℕ × ℕ) × Bool) × Archive Body → Command Body
close_of p = Close p.0.0.1 p.0.1 p.1 p.0.0.0

abbrev new_upload_of : (ℕ × AccountPath) × List ℕ → Command Body
new_upload_of p = NewUpload p.0.1 p.1 p.0.0

abbrev put_part_of : ((ℕ × ℕ) × ℕ) × Body → Command Body
put_part_of p = PutPart p.0.0.1 p.0.1 p.1 p.0.0.0

abbrev commit_upload_of : ((ℕ × ℕ) × List ℕ) × Body → Command Body
commit_upload_of p = CommitUpload p.0.0.1 p.0.1 p.1 p.0.0.0

abbrev abort_upload_of : ℕ × ℕ → Command Body
abort_upload_of p = AbortUpload p.1 p.0

-- ---- what is read

upload_takes : (bytes : List ℕ) (c : Command Body) (rest : List ℕ) → IsBytes bytes → upload_command_at bytes ≡ Some (c, rest) → CommandTook bytes c rest
unfolding upload_command_at new_upload_at put_part_at commit_upload_at abort_upload_at spelling
upload_takes =
    choice_takes CommandTook 13 new_upload_at (choice 14 put_part_at (choice 15 commit_upload_at (choice 16 abort_upload_at nothing)))
    (variant_takes (both_form (both_form moment_form path_form) content_type_form) 13 new_upload_of spelling HasSpelling undigested (λ p h. refl) (λ p h. record { moment = h.0.0; fields = (h.0.1, h.1) }) (λ p. refl))
    (choice_takes CommandTook 14 put_part_at (choice 15 commit_upload_at (choice 16 abort_upload_at nothing))
    (variant_takes (both_form (both_form (both_form moment_form job_form) index_form) body_form) 14 put_part_of spelling HasSpelling undigested (λ p h. refl) (λ p h. record { moment = h.0.0.0; fields = (h.0.0.1, h.0.1, h.1) }) (λ p. refl))
    (choice_takes CommandTook 15 commit_upload_at (choice 16 abort_upload_at nothing)
    (variant_takes (both_form (both_form (both_form moment_form job_form) (list_form two_form eight_form)) body_form) 15 commit_upload_of spelling HasSpelling undigested (λ p h. refl) (λ p h. record { moment = h.0.0.0; fields = (h.0.0.1, h.0.1.0, h.0.1.1, h.1) }) (λ p. refl))
    (choice_takes CommandTook 16 abort_upload_at nothing
    (variant_takes (both_form moment_form job_form) 16 abort_upload_of spelling HasSpelling undigested (λ p h. refl) (λ p h. record { moment = h.0; fields = h.1 }) (λ p. refl))
    (nothing_takes CommandTook))))

job_takes : (bytes : List ℕ) (c : Command Body) (rest : List ℕ) → IsBytes bytes → job_command_at bytes ≡ Some (c, rest) → CommandTook bytes c rest
unfolding job_command_at new_job_at add_inputs_at end_input_at commit_at finish_at cancel_at close_at spelling
job_takes =
    choice_takes CommandTook 5 new_job_at (choice 6 add_inputs_at (choice 7 end_input_at (choice 8 commit_at (choice 9 finish_at (choice 10 cancel_at (choice 12 close_at upload_command_at))))))
    (variant_takes (both_form moment_form document_form) 5 new_job_of spelling HasSpelling undigested (λ p h. refl) (λ p h. record { moment = h.0; fields = h.1 }) (λ p. refl))
    (choice_takes CommandTook 6 add_inputs_at (choice 7 end_input_at (choice 8 commit_at (choice 9 finish_at (choice 10 cancel_at (choice 12 close_at upload_command_at)))))
    (variant_takes (both_form (both_form moment_form job_form) (list_form four_form line_form)) 6 add_inputs_of spelling HasSpelling undigested (λ p h. refl) (λ p h. record { moment = h.0.0; fields = (h.0.1, h.1.0, h.1.1) }) (λ p. refl))
    (choice_takes CommandTook 7 end_input_at (choice 8 commit_at (choice 9 finish_at (choice 10 cancel_at (choice 12 close_at upload_command_at))))
    (variant_takes (both_form moment_form job_form) 7 end_input_of spelling HasSpelling undigested (λ p h. refl) (λ p h. record { moment = h.0; fields = h.1 }) (λ p. refl))
    (choice_takes CommandTook 8 commit_at (choice 9 finish_at (choice 10 cancel_at (choice 12 close_at upload_command_at)))
    (variant_takes (both_form (both_form (both_form (both_form moment_form job_form) four_form) eight_form) fate_form) 8 commit_of spelling HasSpelling undigested (λ p h. refl) (λ p h. record { moment = h.0.0.0.0; fields = (h.0.0.0.1, (h.0.0.1, h.0.1), h.1) }) (λ p. refl))
    (choice_takes CommandTook 9 finish_at (choice 10 cancel_at (choice 12 close_at upload_command_at))
    (variant_takes (both_form moment_form job_form) 9 finish_of spelling HasSpelling undigested (λ p h. refl) (λ p h. record { moment = h.0; fields = h.1 }) (λ p. refl))
    (choice_takes CommandTook 10 cancel_at (choice 12 close_at upload_command_at)
    (variant_takes (both_form moment_form job_form) 10 cancel_of spelling HasSpelling undigested (λ p h. refl) (λ p h. record { moment = h.0; fields = h.1 }) (λ p. refl))
    (choice_takes CommandTook 12 close_at upload_command_at
    (variant_takes (both_form (both_form (both_form moment_form job_form) flag_form) archive_form) 12 close_of spelling HasSpelling undigested (λ p h. refl) (λ p h. record { moment = h.0.0.0; fields = (h.0.0.1, h.1) }) (λ p. refl))
    upload_takes))))))

pub command_takes : (bytes : List ℕ) (c : Command Body) (rest : List ℕ) → IsBytes bytes → command_at bytes ≡ Some (c, rest) → CommandTook bytes c rest
unfolding command_at put_at marked_put_at make_directory_at link_at delete_at spelling
command_takes =
    choice_takes CommandTook 1 put_at (choice 2 make_directory_at (choice 3 link_at (choice 4 delete_at (choice 11 marked_put_at job_command_at))))
    (variant_takes (both_form (both_form (both_form moment_form path_form) content_type_form) body_form) 1 put_of spelling HasSpelling undigested (λ p h. refl) (λ p h. record { moment = h.0.0.0; fields = record { path = h.0.0.1; content_type = h.0.1; body = h.1; durability = tt; metadata = no_metadata } }) (λ p. refl))
    (choice_takes CommandTook 2 make_directory_at (choice 3 link_at (choice 4 delete_at (choice 11 marked_put_at job_command_at)))
    (variant_takes (both_form moment_form path_form) 2 make_directory_of spelling HasSpelling undigested (λ p h. refl) (λ p h. record { moment = h.0; fields = h.1 }) (λ p. refl))
    (choice_takes CommandTook 3 link_at (choice 4 delete_at (choice 11 marked_put_at job_command_at))
    (variant_takes (both_form (both_form moment_form path_form) path_form) 3 link_of spelling HasSpelling undigested (λ p h. refl) (λ p h. record { moment = h.0.0; fields = (h.0.1, h.1) }) (λ p. refl))
    (choice_takes CommandTook 4 delete_at (choice 11 marked_put_at job_command_at)
    (variant_takes (both_form moment_form path_form) 4 delete_of spelling HasSpelling undigested (λ p h. refl) (λ p h. record { moment = h.0; fields = h.1 }) (λ p. refl))
    (choice_takes CommandTook 11 marked_put_at job_command_at
    (variant_takes (tested_form (both_form (both_form (both_form (both_form (both_form moment_form path_form) content_type_form) durability_form) metadata_form) body_form) has_marks (λ p. refl)) 11 marked_of spelling HasSpelling undigested (λ p h. rw h.1 refl)
    (λ p h. record { moment = h.0.0.0.0.0.0; fields = record { path = h.0.0.0.0.0.1; content_type = h.0.0.0.0.1; body = h.0.1; durability = h.0.0.0.1; metadata = h.0.0.1 } }) (λ p. refl))
    job_takes))))

-- ---- what is spelled

marked_again : (path : AccountPath) (content_type : List ℕ) (body : Body) (durability : Option ℕ) (metadata : List Field) (moment : ℕ) (rest : List ℕ)
    → HasSpelling (Put path content_type body durability metadata moment) → is_marked durability metadata ≡ true
    → command_at (spelling (Put path content_type body durability metadata moment) ++ rest) ≡ Some (undigested (Put path content_type body durability metadata moment), rest)
unfolding command_at marked_put_at spelling
marked_again path content_type body durability metadata moment rest fits marked =
    rw marked
    (made_again (tested_form (both_form (both_form (both_form (both_form (both_form moment_form path_form) content_type_form) durability_form) metadata_form) body_form) has_marks (λ p. refl)) marked_of (((((moment, path), content_type), durability), metadata), body) rest
    ((((((fits.moment, fits.fields.path), fits.fields.content_type), fits.fields.durability), fits.fields.metadata), fits.fields.body), marked))

pub command_again : (c : Command Body) (rest : List ℕ) → HasSpelling c → command_at (spelling c ++ rest) ≡ Some (undigested c, rest)
unfolding command_at put_at make_directory_at link_at delete_at job_command_at new_job_at add_inputs_at end_input_at commit_at finish_at cancel_at close_at upload_command_at new_upload_at put_part_at commit_upload_at abort_upload_at spelling
command_again (Put path content_type body None [] moment) rest fits =
    made_again (both_form (both_form (both_form moment_form path_form) content_type_form) body_form) put_of (((moment, path), content_type), body) rest (((fits.moment, fits.fields.path), fits.fields.content_type), fits.fields.body)
command_again (Put path content_type body None (f ∷ fields) moment) rest fits = marked_again path content_type body None (f ∷ fields) moment rest fits refl
command_again (Put path content_type body (Some n) fields moment) rest fits = marked_again path content_type body (Some n) fields moment rest fits refl
command_again (MakeDirectory path moment) rest fits = made_again (both_form moment_form path_form) make_directory_of (moment, path) rest (fits.moment, fits.fields)
command_again (Link path source moment) rest fits = made_again (both_form (both_form moment_form path_form) path_form) link_of ((moment, path), source) rest ((fits.moment, fits.fields.0), fits.fields.1)
command_again (Delete path moment) rest fits = made_again (both_form moment_form path_form) delete_of (moment, path) rest (fits.moment, fits.fields)
command_again (NewJob document moment) rest fits = made_again (both_form moment_form document_form) new_job_of (moment, document) rest (fits.moment, fits.fields)
command_again (AddInputs job lines moment) rest fits =
    made_again (both_form (both_form moment_form job_form) (list_form four_form line_form)) add_inputs_of ((moment, job), lines) rest ((fits.moment, fits.fields.0), (fits.fields.1, fits.fields.2))
command_again (EndInput job moment) rest fits = made_again (both_form moment_form job_form) end_input_of (moment, job) rest (fits.moment, fits.fields)
command_again (Commit job phase place fate moment) rest fits =
    made_again (both_form (both_form (both_form (both_form moment_form job_form) four_form) eight_form) fate_form) commit_of ((((moment, job), phase), place), fate) rest
    ((((fits.moment, fits.fields.0), fits.fields.1.0), fits.fields.1.1), fits.fields.2)
command_again (Finish job moment) rest fits = made_again (both_form moment_form job_form) finish_of (moment, job) rest (fits.moment, fits.fields)
command_again (Cancel job moment) rest fits = made_again (both_form moment_form job_form) cancel_of (moment, job) rest (fits.moment, fits.fields)
command_again (Close job cancelled archive moment) rest fits =
    made_again (both_form (both_form (both_form moment_form job_form) flag_form) archive_form) close_of (((moment, job), cancelled), archive) rest
    (((fits.moment, fits.fields.0), tt), fits.fields.1)
command_again (NewUpload path content_type moment) rest fits =
    made_again (both_form (both_form moment_form path_form) content_type_form) new_upload_of ((moment, path), content_type) rest ((fits.moment, fits.fields.0), fits.fields.1)
command_again (PutPart upload index body moment) rest fits =
    made_again (both_form (both_form (both_form moment_form job_form) index_form) body_form) put_part_of (((moment, upload), index), body) rest
    (((fits.moment, fits.fields.0), fits.fields.1), fits.fields.2)
command_again (CommitUpload upload parts body moment) rest fits =
    made_again (both_form (both_form (both_form moment_form job_form) (list_form two_form eight_form)) body_form) commit_upload_of (((moment, upload), parts), body) rest
    (((fits.moment, fits.fields.0), (fits.fields.1, fits.fields.2)), fits.fields.3)
command_again (AbortUpload upload moment) rest fits = made_again (both_form moment_form job_form) abort_upload_of (moment, upload) rest (fits.moment, fits.fields)
