-- A command is refused for the same cause where the sizes of the bodies that the state holds are kept: another reading,
-- which fills up with zeros and cuts, keeps all sizes, and reads the same for those.
use Rattle.std.proofs.Common.{◌≡◌, ℕ, List, [], ◌∷◌, ◌++◌, length, take, refl, sym, ◌∙◌, ap, arith, length-append}
use Rattle.std.specs.Prelude.{replicate}
use Rattle.std.specs.List.{AllByRecursion}
use Rattle.std.proofs.lemmas.List.{length-replicate, length-take-le, take_at}
use Rattle.mt_types.specs.Values.{command_with}
use Rattle.mt_types.specs.declared.body.Body.{Body}
use Rattle.mt_types.specs.declared.command.Command.{Command}
use Rattle.mt_types.specs.declared.command.Command.TheVariants.{Put, MakeDirectory, Link, Delete, NewJob, AddInputs, EndInput, Commit, Finish, Cancel, Close, NewUpload, PutPart, CommitUpload, AbortUpload}
use Rattle.mt_types.specs.declared.job.Outcome.{Outcome}
use Rattle.mt_types.specs.declared.job.Outcome.TheVariants.{Good, Bad}
use Rattle.mt_types.specs.declared.object.Entry.{Entry}
use Rattle.mt_types.specs.declared.object.Entry.TheVariants as entry
use Rattle.mt_model.specs.Bodies.{OfEntry, OfOutcome, OfState, state_with}
use Rattle.mt_model.specs.CommandStep.{allowed}
use Rattle.mt_model.specs.Laws.{AllowedIsRead, KeepsSize, Reading}
use Rattle.mt_model.specs.State.{State}
use Rattle.mt_model.proofs.Agree.{state-agree}

module _ {X : Type 0} (P Q : X → Type 0) (each : (x : X) → P x → Q x) where
  weaker : (xs : List X) → AllByRecursion P xs → AllByRecursion Q xs
  weaker [] all = tt
  weaker (x ∷ xs) all = (each x all.0, weaker xs all.1)

module _ {A : Type 0} (P Q : A → Type 0) (each : (x : A) → P x → Q x) where
  entry_weaker : (e : Entry A) → OfEntry P e → OfEntry Q e
  entry_weaker (entry.Directory mtime) is = is
  entry_weaker (entry.Object o) is = each o.body is

  outcome_weaker : (o : Outcome A) → OfOutcome P o → OfOutcome Q o
  outcome_weaker (Good items) is = weaker (λ i. P i.body) (λ i. Q i.body) (λ i. each i.body) items is
  outcome_weaker (Bad failure status stderr) is = is

  -- what is weaker holds of each body of a state too
  pub state_weaker : (s : State A) → OfState P s → OfState Q s
  state_weaker s is = record {
    rows = weaker _ _ (λ r. entry_weaker r.1) s.rows is.rows;
    jobs = weaker _ _ (λ j job. record {
      assets = weaker _ _ (λ bodies. weaker P Q each bodies) j.assets job.assets;
      inputs = weaker (λ i. P i.body) (λ i. Q i.body) (λ i. each i.body) j.inputs job.inputs;
      trace = weaker _ _ (λ e. outcome_weaker e.outcome) j.trace job.trace;
    }) s.jobs is.jobs;
    uploads = weaker _ _ (λ u. weaker _ _ (λ p. each p.body) u.parts) s.uploads is.uploads;
  }

-- as many bytes as the body has: those that are read, and zeros where they are too few
abbrev pub filled : Reading → Reading
filled read b = take b.len (read b ++ replicate b.len 0)

pub filled_keeps : (read : Reading) → KeepsSize (filled read)
filled_keeps read b =
    let zeros : List ℕ = replicate b.len 0 in
    let size : length zeros ≡ b.len = length-replicate b.len 0 in
    length-take-le b.len (read b ++ zeros) (omega (arith, length-append (read b) zeros, size))

pub filled_same : (read : Reading) (b : Body) → length (read b) ≡ b.len → read b ≡ filled read b
filled_same read b size = sym (take_at (read b) (replicate b.len 0) b.len size)

-- the bodies of a command are not asked for
bodies_apart : (f g : Reading) (t : State (List ℕ)) (c : Command Body) → allowed length t (command_with f c) ≡ allowed length t (command_with g c)
unfolding allowed
bodies_apart f g t (Put path content_type body durability metadata moment) = refl
bodies_apart f g t (MakeDirectory path moment) = refl
bodies_apart f g t (Link path source moment) = refl
bodies_apart f g t (Delete path moment) = refl
bodies_apart f g t (NewJob document moment) = refl
bodies_apart f g t (AddInputs job lines moment) = refl
bodies_apart f g t (EndInput job moment) = refl
bodies_apart f g t (Commit job phase place fate moment) = refl
bodies_apart f g t (Finish job moment) = refl
bodies_apart f g t (Cancel job moment) = refl
bodies_apart f g t (Close job cancelled archive moment) = refl
bodies_apart f g t (NewUpload path content_type moment) = refl
bodies_apart f g t (PutPart upload index body moment) = refl
bodies_apart f g t (CommitUpload upload parts body moment) = refl
bodies_apart f g t (AbortUpload upload moment) = refl

pub allowed_of_held : AllowedIsRead → (read : Reading) (s : State Body) (c : Command Body) → OfState (λ b. length (read b) ≡ b.len) s → allowed length (state_with read s) (command_with read c) ≡ allowed (λ b. b.len) s c
allowed_of_held law read s c held =
    let same = state-agree read (filled read) s (state_weaker _ _ (filled_same read) s held) in
    ap (λ t. allowed length t (command_with read c)) same ∙ bodies_apart read (filled read) (state_with (filled read) s) c ∙ law (filled read) (filled_keeps read) s c
