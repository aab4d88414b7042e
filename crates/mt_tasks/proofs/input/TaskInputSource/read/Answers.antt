use Rattle.std.proofs.Common.{◌≡◌, ◌<◌, ◌≤◌, List, ℕ, ◌+◌, [], ◌++◌, length, take, drop, Option, Some, None, option_map, sym, ap, ◌∙◌, subst, arith, refl, length-append}
use Rattle.std.proofs.lemmas.List.{length-take, take_at}
use Rattle.mt_disk.specs.Files.{Files}
use Rattle.mt_body.specs.Stored.{bytes_of}
use Rattle.mt_body.proofs.Keeping.{length-bytes_of}
use Rattle.mt_log.specs.LogState.{told}
use Rattle.mt_tasks.specs.Reading.{bodies_of_task, left_at}
use Rattle.mt_tasks.proofs.Passing.{ended_left, read_on, same_left, took_left}
use Rattle.mt_tasks.proofs.Rights.{test_stored}
use Rattle.mt_tasks.proofs.There.{there_kept}
use Rattle.mt_tasks.proofs.input.TaskInputSource.read.Goals as goal

pub read_body-requires-clause-ready : goal.read_body-requires-clause-ready
read_body-requires-clause-ready g c =
    let some = rw c.in-Some.is at c.next_body.ensures.some in
    record {
      there = there_kept (g.D.Disk.seen c.args.self.now.disk.now) c.args.self.now.engine.now.log c.args.self.now.reads.there;
      is_open = c.args.self.now.reads.is_open;
      stored = λ ps at. test_stored ps (bodies_of_task c.args.self.now.engine.now.state.jobs c.args.self.now.task) c.next_body.result.0.next c.in-Some.body.now (c.args.self.now.reads.stored ps at) some.0;
    }

pub overflow_add-self : goal.overflow_add-self
overflow_add-self g c =
    let some = rw c.in-Some.is at c.next_body.ensures.some in
    omega (arith, some.1, c.min-count.ensures, c.size.ensures, c.size.type_inv)

pub returns-in_default-clause-reads : goal.returns-in_default-clause-reads
returns-in_default-clause-reads g c =
    let self = c.args.self.now in
    let bodies = bodies_of_task self.engine.now.state.jobs self.task in
    let o = told (g.D.Disk.seen self.disk.now) in
    let f : List (List ℕ) → List ℕ = λ ps. left_at (bytes_of ps) bodies self.place in
    let f' : List (List ℕ) → List ℕ = λ ps. left_at (bytes_of ps) bodies c.next_body.result.0 in
    let none = rw c.in_default.is at c.next_body.ensures.none in
    let same : (ps : List (List ℕ)) → f' ps ≡ f ps = λ ps. c.next_body.ensures.same (bytes_of ps) (length-bytes_of ps) in
    (ended_left o f f' same (λ ps. none (bytes_of ps)), same_left o f f' same, omega arith)

pub returns-in-Ok-clause-reads : goal.returns-in-Ok-clause-reads
returns-in-Ok-clause-reads g c =
    let self = c.args.self.now in
    let bodies = bodies_of_task self.engine.now.state.jobs self.task in
    let n = c.min-count.result in
    let at = c.next_body.result.0.at in
    let body = c.in-Some.body.now in
    let part = c.read_body.new.into in
    let some = rw c.in-Some.is at c.next_body.ensures.some in
    let long : length part ≡ n = omega (arith, c.read_body.auto.into, length-take n c.args.into.now, c.min-count.ensures, c.size.ensures) in
    let xs : List ℕ = take n (part ++ drop n c.args.into.now) in
    let f : List (List ℕ) → List ℕ = λ ps. left_at (bytes_of ps) bodies self.place in
    let f' : List (List ℕ) → List ℕ = λ ps. left_at (bytes_of ps) bodies (record { next = c.next_body.result.0.next; at = at + n }) in
    let cut : (ps : List (List ℕ)) → told (g.D.Disk.seen self.disk.now) ≡ Some ps → f ps ≡ xs ++ f' ps = λ ps is.
    let read : part ≡ take n (drop at (bytes_of ps body)) = c.in-Ok.ensures.bytes ps is ∙ ap (λ (k : ℕ). take k (drop at (bytes_of ps body))) (sym c.read_body.auto.into ∙ long) in
    sym (c.next_body.ensures.same (bytes_of ps) (length-bytes_of ps))
    ∙ read_on (bytes_of ps) (length-bytes_of ps) bodies c.next_body.result.0 body n some.0 (omega (arith, some.1, c.min-count.ensures, c.size.ensures))
    ∙ ap (λ (l : List ℕ). l ++ f' ps) (sym (take_at part (drop n c.args.into.now) n long ∙ read)) in (
      omega (arith, c.requires, some.1, c.min-count.ensures, c.size.ensures),
      omega (arith, length-append part (drop n c.args.into.now), long),
      took_left (told (g.D.Disk.seen self.disk.now)) f f' xs cut ∙ ap (λ (o : Option Files). option_map (λ rest. xs ++ rest) (option_map f' (told o))) (sym c.in-Ok.ensures.looks.read.seen_same),
      c.in-Ok.ensures.looks.faults,
    )

pub returns-in-Err-clause-reads : goal.returns-in-Err-clause-reads
returns-in-Err-clause-reads g c =
    let self = c.args.self.now in
    let bodies = bodies_of_task self.engine.now.state.jobs self.task in
    let f : List (List ℕ) → List ℕ = λ ps. left_at (bytes_of ps) bodies self.place in
    let f' : List (List ℕ) → List ℕ = λ ps. left_at (bytes_of ps) bodies c.next_body.result.0 in
    let same : (ps : List (List ℕ)) → f' ps ≡ f ps = λ ps. c.next_body.ensures.same (bytes_of ps) (length-bytes_of ps) in (
      ap (λ (o : Option Files). option_map f' (told o)) c.in-Err.ensures.looks.read.seen_same ∙ same_left (told (g.D.Disk.seen self.disk.now)) f f' same,
      c.in-Err.ensures.looks.disk refl,
    )
