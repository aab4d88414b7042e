use Rattle.std.proofs.Common.{◌≡◌, ◌*◌, ◌+◌, List, ℕ, codes, refl, ap, ◌∙◌, arith}
use Rattle.std.proofs.lemmas.Result.{on_ok_weaker}
use Rattle.mt_path.specs.AccountPath.{AccountPath}
use Rattle.mt_types.specs.declared.object.Entry.TheVariants as entry
use Rattle.mt_types.specs.declared.object.Object.{Object}
use Rattle.mt_model.specs.JobSteps.{archive_object}
use Rattle.mt_model.specs.Names.{in_job_folder, number_at}
use Rattle.mt_model.specs.Rows.{Rows, with_row}
use Rattle.mt_jobs.proofs.Archived.{put_next}
use Rattle.mt_jobs.proofs.ends.put_archive.Goals as goal

pub returns : goal.returns
returns g c =
    let m = c.args.moment in
    let p = c.args.position in
    let zero : p * 4096 ≡ number_at p 0 = omega arith in
    let one : p * 4096 + 1 ≡ number_at p 1 = omega arith in
    let two : p * 4096 + 2 ≡ number_at p 2 = omega arith in
    let three : p * 4096 + 3 ≡ number_at p 3 = omega arith in
    let four : p * 4096 + 4 ≡ number_at p 4 = omega arith in
    let at : List ℕ → AccountPath = λ name. in_job_folder c.args.job name in
    let o1 : Object g.row.B.Denot = archive_object (number_at p 0) (codes "application/x-json-stream") c.args.archive.err m in
    let o2 : Object g.row.B.Denot = archive_object (number_at p 1) (codes "text/plain") c.args.archive.fail m in
    let o3 : Object g.row.B.Denot = archive_object (number_at p 2) (codes "text/plain") c.args.archive.input m in
    let o4 : Object g.row.B.Denot = archive_object (number_at p 3) (codes "application/json") c.args.archive.status m in
    let o5 : Object g.row.B.Denot = archive_object (number_at p 4) (codes "text/plain") c.args.archive.out m in
    let r0 : Rows g.row.B.Denot = c.args.tree.now in
    let r1 : Rows g.row.B.Denot = with_row r0 (at (codes "err.txt")) (entry.Object o1) in
    let r2 : Rows g.row.B.Denot = with_row r1 (at (codes "fail.txt")) (entry.Object o2) in
    let r3 : Rows g.row.B.Denot = with_row r2 (at (codes "in.txt")) (entry.Object o3) in
    let r4 : Rows g.row.B.Denot = with_row r3 (at (codes "job.json")) (entry.Object o4) in
    let e1 = put_next r0 r0 c.put_text.new.tree (at (codes "err.txt")) c.in_ok-object.object o1 c.in_ok-put_text.ensures.rows refl (c.in_ok-object.ensures ∙ ap (λ n. archive_object n (codes "application/x-json-stream") c.args.archive.err m) zero) in
    let e2 = put_next r1 c.put_text.new.tree c.put_text-2.new.tree (at (codes "fail.txt")) c.in_ok-object-2.object o2 c.in_ok-put_text-2.ensures.rows e1 (c.in_ok-object-2.ensures ∙ ap (λ n. archive_object n (codes "text/plain") c.args.archive.fail m) one) in
    let e3 = put_next r2 c.put_text-2.new.tree c.put_text-3.new.tree (at (codes "in.txt")) c.in_ok-object-3.object o3 c.in_ok-put_text-3.ensures.rows e2 (c.in_ok-object-3.ensures ∙ ap (λ n. archive_object n (codes "text/plain") c.args.archive.input m) two) in
    let e4 = put_next r3 c.put_text-3.new.tree c.put_text-4.new.tree (at (codes "job.json")) c.in_ok-object-4.object o4 c.in_ok-put_text-4.ensures.rows e3 (c.in_ok-object-4.ensures ∙ ap (λ n. archive_object n (codes "application/json") c.args.archive.status m) three) in
    on_ok_weaker c.put_text-5.result
    (λ put. put_next r4 c.put_text-4.new.tree c.put_text-5.new.tree (at (codes "out.txt")) c.in_ok-object-5.object o5 put e4 (c.in_ok-object-5.ensures ∙ ap (λ n. archive_object n (codes "text/plain") c.args.archive.out m) four))
    c.put_text-5.ensures.rows
