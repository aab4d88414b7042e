use Rattle.std.proofs.Common.{ℕ}
use Rattle.mt_types.specs.declared.body.Body.{Body}
use Rattle.mt_model.proofs.LawfulSteps.{Lawful-abort_upload, Lawful-add_inputs, Lawful-cancel, Lawful-close, Lawful-commit, Lawful-delete, Lawful-end_input, Lawful-finish, Lawful-link, Lawful-make_directory, Lawful-new_job, Lawful-new_upload, Lawful-commit_upload, Lawful-put, Lawful-put_part}
use Rattle.mt_model.proofs.laws.commands_keep_lawful.Goals as goal

abbrev size : Body → ℕ
size b = b.len

pub returns : goal.returns
returns c = record {
  put = λ path content_type body durability metadata moment is s law room e. Lawful-put size s law path content_type body durability metadata moment is e;
  make_directory = λ path moment is s law room e. Lawful-make_directory size s law path moment is e;
  link = λ path source moment is s law room e. Lawful-link size s law path source moment is e;
  delete = λ path moment s law room e. Lawful-delete size s law path moment e;
  new_job = λ document moment is s law room e. Lawful-new_job size s law document moment is room e;
  add_inputs = λ job lines moment made s law room e. Lawful-add_inputs size s law job lines moment made e;
  end_input = λ job moment s law room e. Lawful-end_input size s law job moment e;
  commit = λ job phase place fate moment made s law room e. Lawful-commit size s law job phase place fate moment made room e;
  finish = λ job moment s law room e. Lawful-finish size s law job moment e;
  cancel = λ job moment s law room e. Lawful-cancel size s law job moment e;
  close = λ job cancelled archive moment s law room e. Lawful-close size s law job cancelled archive moment room e;
  new_upload = λ path content_type moment is s law room e. Lawful-new_upload size s law path content_type moment is e;
  put_part = λ upload index body moment is s law room e. Lawful-put_part size s law upload index body moment is;
  commit_upload = λ upload parts body moment s law room e. Lawful-commit_upload size s law upload parts body moment e;
  abort_upload = λ upload moment s law room e. Lawful-abort_upload size s law upload moment;
}
