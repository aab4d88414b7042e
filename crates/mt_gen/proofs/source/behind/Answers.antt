use Rattle.std.proofs.Common.{◌≡◌, ◌+◌, ◌++◌, sym, subst, arith}
use Rattle.mt_gen.specs.Messages.{directory_put, due_bytes, end_post, from_job, from_objects, input_line, object_put, piece}
use Rattle.mt_gen.specs.declared.due.Due.TheVariants.{Directory, Object, Line}
use Rattle.mt_gen.proofs.Pieces.{first_of}
use Rattle.mt_gen.proofs.source.behind.Goals as goal

pub returns-then-number-lt-DIRECTORIES-clause-next : goal.returns-then-number-lt-DIRECTORIES-clause-next
returns-then-number-lt-DIRECTORIES-clause-next c =
    subst (λ d. due_bytes c.args.count d ≡ piece c.args.count d ++ due_bytes c.args.count (Directory (c.in-Directory.number + 1))) (sym c.in-Directory.is)
    (first_of directory_put c.in-Directory.number 16 (from_objects c.args.count 0) (omega (arith, c.if-number-lt-DIRECTORIES.true)))

pub returns-then-number-count-clause-next : goal.returns-then-number-count-clause-next
returns-then-number-count-clause-next c =
    subst (λ d. due_bytes c.args.count d ≡ piece c.args.count d ++ due_bytes c.args.count (Object (c.in-Object.number + 1))) (sym c.in-Object.is)
    (first_of object_put c.in-Object.number c.args.count (from_job c.args.count) (omega (arith, c.if-number-count.true)))

pub returns-then-number-count-2-clause-next : goal.returns-then-number-count-2-clause-next
returns-then-number-count-2-clause-next c =
    subst (λ d. due_bytes c.args.count d ≡ piece c.args.count d ++ due_bytes c.args.count (Line (c.in-Line.number + 1))) (sym c.in-Line.is)
    (first_of input_line c.in-Line.number c.args.count (end_post c.args.count) (omega (arith, c.if-number-count-2.true)))
