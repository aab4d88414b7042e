-- Commands and their bodies: what holds of each, and commands that differ in the digests of bodies alone.
use Rattle.std.proofs.Common.{◌≡◌, ◌<◌, ◌≤◌, ℕ, ◌+◌, true, List, [], ◌∷◌, ◌++◌, map, length, take, refl, sym, ap, ◌∙◌, subst}
use Rattle.std.proofs.Math.ListN.{set}
use Rattle.std.proofs.lemmas.List.{length-map, take_more_set}
use Rattle.std.specs.Prelude.{IsTrue}
use Rattle.std.specs.List.{AllByRecursion}
use Rattle.md5.specs.Md5.{md5}
use Rattle.mt_codec.specs.Spelling.{FitsBody, FitsFate, FitsFields, FitsRecord, HasSpelling, moment_of, spelling, undigested, undigested_body}
use Rattle.mt_codec.proofs.Weaker.{digests_apart}
use Rattle.mt_body.specs.Stored.{IsStored, is_stored}
use Rattle.mt_body.proofs.Keeping.{same_bytes}
use Rattle.mt_model.specs.Bodies.{OfArchive, OfCommand, OfFate, OfRecord}
use Rattle.mt_model.specs.CommandStep.{allowed}
use Rattle.mt_model.specs.State.{State}
use Rattle.mt_types.specs.Kinds.{kind_of}
use Rattle.mt_types.specs.Limits.{is_moment}
use Rattle.mt_types.specs.Values.{archive_with, command_with, fate_with, record_with}
use Rattle.mt_types.specs.declared.body.Body.{Body}
use Rattle.mt_types.specs.declared.command.Archive.{Archive}
use Rattle.mt_types.specs.declared.command.Command.{Command}
use Rattle.mt_types.specs.declared.command.Command.TheVariants.{Put, MakeDirectory, Link, Delete, NewJob, AddInputs, EndInput, Commit, Finish, Cancel, Close, NewUpload, PutPart, CommitUpload, AbortUpload}
use Rattle.mt_types.specs.declared.limits.TheConstants.{MOST_RECORDS}
use Rattle.mt_types.specs.declared.task.Fate.{Fate}
use Rattle.mt_types.specs.declared.task.Fate.TheVariants.{Good, Bad}
use Rattle.mt_types.specs.declared.task.TaskRecord.{TaskRecord}
use Rattle.mt_types.specs.declared.task.TaskRecord.TheVariants.{Emit, Keep, Ref}

-- ---- two facts of each body, and what follows

module _ {A : Type 0} (P Q R : A → Type 0) (each : (x : A) → P x → Q x → R x) where
  record_both : (r : TaskRecord A) → OfRecord P r → OfRecord Q r → OfRecord R r
  record_both (Emit place reducer body) p q = each body p q
  record_both (Keep place body) p q = each body p q
  record_both (Ref name) p q = tt

  records_both : (rs : List (TaskRecord A)) → AllByRecursion (OfRecord P) rs → AllByRecursion (OfRecord Q) rs → AllByRecursion (OfRecord R) rs
  records_both [] p q = tt
  records_both (r ∷ rs) p q = (record_both r p.0 q.0, records_both rs p.1 q.1)

  fate_both : (x : Fate A) → OfFate P x → OfFate Q x → OfFate R x
  fate_both (Good records) p q = records_both records p q
  fate_both (Bad failure status stderr) p q = tt

  archive_both : (a : Archive A) → OfArchive P a → OfArchive Q a → OfArchive R a
  archive_both a p q = record { err = each a.err p.err q.err; fail = each a.fail p.fail q.fail; input = each a.input p.input q.input; status = each a.status p.status q.status; out = each a.out p.out q.out }

  pub of_both : (c : Command A) → OfCommand P c → OfCommand Q c → OfCommand R c
  of_both (Put path content_type body durability metadata moment) p q = each body p q
  of_both (MakeDirectory path moment) p q = tt
  of_both (Link path source moment) p q = tt
  of_both (Delete path moment) p q = tt
  of_both (NewJob document moment) p q = tt
  of_both (AddInputs job lines moment) p q = tt
  of_both (EndInput job moment) p q = tt
  of_both (Commit job phase place fate moment) p q = fate_both fate p q
  of_both (Finish job moment) p q = tt
  of_both (Cancel job moment) p q = tt
  of_both (Close job cancelled archive moment) p q = archive_both archive p q
  of_both (NewUpload path content_type moment) p q = tt
  of_both (PutPart upload index body moment) p q = each body p q
  of_both (CommitUpload upload parts body moment) p q = each body p q
  of_both (AbortUpload upload moment) p q = tt

-- and of one
pub of_command : {A : Type 0} (P Q : A → Type 0) → ((x : A) → P x → Q x) → (c : Command A) → OfCommand P c → OfCommand Q c
of_command P Q each c is = of_both P P Q (λ x p q. each x p) c is is

-- ---- bodies that others stand for

module _ {A B : Type 0} (f : A → B) (P : A → Type 0) (Q : B → Type 0) where
  module _ (each : (x : A) → P x → Q (f x)) where
    record_with_all : (r : TaskRecord A) → OfRecord P r → OfRecord Q (record_with f r)
    record_with_all (Emit place reducer body) is = each body is
    record_with_all (Keep place body) is = each body is
    record_with_all (Ref name) is = tt

    records_with_all : (rs : List (TaskRecord A)) → AllByRecursion (OfRecord P) rs → AllByRecursion (OfRecord Q) (map (record_with f) rs)
    records_with_all [] is = tt
    records_with_all (r ∷ rs) is = (record_with_all r is.0, records_with_all rs is.1)

    fate_with_all : (x : Fate A) → OfFate P x → OfFate Q (fate_with f x)
    fate_with_all (Good records) is = records_with_all records is
    fate_with_all (Bad failure status stderr) is = tt

    pub of_with : (c : Command A) → OfCommand P c → OfCommand Q (command_with f c)
    of_with (Put path content_type body durability metadata moment) is = each body is
    of_with (MakeDirectory path moment) is = tt
    of_with (Link path source moment) is = tt
    of_with (Delete path moment) is = tt
    of_with (NewJob document moment) is = tt
    of_with (AddInputs job lines moment) is = tt
    of_with (EndInput job moment) is = tt
    of_with (Commit job phase place fate moment) is = fate_with_all fate is
    of_with (Finish job moment) is = tt
    of_with (Cancel job moment) is = tt
    of_with (Close job cancelled a moment) is = record { err = each a.err is.err; fail = each a.fail is.fail; input = each a.input is.input; status = each a.status is.status; out = each a.out is.out }
    of_with (NewUpload path content_type moment) is = tt
    of_with (PutPart upload index body moment) is = each body is
    of_with (CommitUpload upload parts body moment) is = each body is
    of_with (AbortUpload upload moment) is = tt

  module _ (each : (x : A) → Q (f x) → P x) where
    record_from_all : (r : TaskRecord A) → OfRecord Q (record_with f r) → OfRecord P r
    record_from_all (Emit place reducer body) is = each body is
    record_from_all (Keep place body) is = each body is
    record_from_all (Ref name) is = tt

    records_from_all : (rs : List (TaskRecord A)) → AllByRecursion (OfRecord Q) (map (record_with f) rs) → AllByRecursion (OfRecord P) rs
    records_from_all [] is = tt
    records_from_all (r ∷ rs) is = (record_from_all r is.0, records_from_all rs is.1)

    fate_from_all : (x : Fate A) → OfFate Q (fate_with f x) → OfFate P x
    fate_from_all (Good records) is = records_from_all records is
    fate_from_all (Bad failure status stderr) is = tt

    pub of_from : (c : Command A) → OfCommand Q (command_with f c) → OfCommand P c
    of_from (Put path content_type body durability metadata moment) is = each body is
    of_from (MakeDirectory path moment) is = tt
    of_from (Link path source moment) is = tt
    of_from (Delete path moment) is = tt
    of_from (NewJob document moment) is = tt
    of_from (AddInputs job lines moment) is = tt
    of_from (EndInput job moment) is = tt
    of_from (Commit job phase place fate moment) is = fate_from_all fate is
    of_from (Finish job moment) is = tt
    of_from (Cancel job moment) is = tt
    of_from (Close job cancelled a moment) is = record { err = each a.err is.err; fail = each a.fail is.fail; input = each a.input is.input; status = each a.status is.status; out = each a.out is.out }
    of_from (NewUpload path content_type moment) is = tt
    of_from (PutPart upload index body moment) is = each body is
    of_from (CommitUpload upload parts body moment) is = each body is
    of_from (AbortUpload upload moment) is = tt

-- ---- two readings that agree on what a command brings

module _ {A B : Type 0} (f g : A → B) where
  abbrev Same : A → Type 0
  Same x = f x ≡ g x

  record_agrees : (r : TaskRecord A) → OfRecord Same r → record_with f r ≡ record_with g r
  record_agrees (Emit place reducer body) is = ap (λ b. Emit place reducer b) is
  record_agrees (Keep place body) is = ap (λ b. Keep place b) is
  record_agrees (Ref name) is = refl

  records_agree : (rs : List (TaskRecord A)) → AllByRecursion (OfRecord Same) rs → map (record_with f) rs ≡ map (record_with g) rs
  records_agree [] is = refl
  records_agree (r ∷ rs) is = λ i. record_agrees r is.0 i ∷ records_agree rs is.1 i

  fate_agrees : (x : Fate A) → OfFate Same x → fate_with f x ≡ fate_with g x
  fate_agrees (Good records) is = ap Good (records_agree records is)
  fate_agrees (Bad failure status stderr) is = refl

  archive_agrees : (a : Archive A) → OfArchive Same a → archive_with f a ≡ archive_with g a
  archive_agrees a is = λ i. record { err = is.err i; fail = is.fail i; input = is.input i; status = is.status i; out = is.out i }

  pub command_agrees : (c : Command A) → OfCommand Same c → command_with f c ≡ command_with g c
  command_agrees (Put path content_type body durability metadata moment) is = ap (λ b. Put path content_type b durability metadata moment) is
  command_agrees (MakeDirectory path moment) is = refl
  command_agrees (Link path source moment) is = refl
  command_agrees (Delete path moment) is = refl
  command_agrees (NewJob document moment) is = refl
  command_agrees (AddInputs job lines moment) is = refl
  command_agrees (EndInput job moment) is = refl
  command_agrees (Commit job phase place fate moment) is = ap (λ x. Commit job phase place x moment) (fate_agrees fate is)
  command_agrees (Finish job moment) is = refl
  command_agrees (Cancel job moment) is = refl
  command_agrees (Close job cancelled archive moment) is = ap (λ a. Close job cancelled a moment) (archive_agrees archive is)
  command_agrees (NewUpload path content_type moment) is = refl
  command_agrees (PutPart upload index body moment) is = ap (λ b. PutPart upload index b moment) is
  command_agrees (CommitUpload upload parts body moment) is = ap (λ b. CommitUpload upload parts b moment) is
  command_agrees (AbortUpload upload moment) is = refl

-- ---- one reading behind another

module _ {A B C : Type 0} (f : A → B) (g : B → C) (h : A → C) (each : (x : A) → g (f x) ≡ h x) where
  record_twice : (r : TaskRecord A) → record_with g (record_with f r) ≡ record_with h r
  record_twice (Emit place reducer body) = ap (λ b. Emit place reducer b) (each body)
  record_twice (Keep place body) = ap (λ b. Keep place b) (each body)
  record_twice (Ref name) = refl

  records_twice : (rs : List (TaskRecord A)) → map (record_with g) (map (record_with f) rs) ≡ map (record_with h) rs
  records_twice [] = refl
  records_twice (r ∷ rs) = λ i. record_twice r i ∷ records_twice rs i

  fate_twice : (x : Fate A) → fate_with g (fate_with f x) ≡ fate_with h x
  fate_twice (Good records) = ap Good (records_twice records)
  fate_twice (Bad failure status stderr) = refl

  archive_twice : (a : Archive A) → archive_with g (archive_with f a) ≡ archive_with h a
  archive_twice a = λ i. record { err = each a.err i; fail = each a.fail i; input = each a.input i; status = each a.status i; out = each a.out i }

  pub command_twice : (c : Command A) → command_with g (command_with f c) ≡ command_with h c
  command_twice (Put path content_type body durability metadata moment) = ap (λ b. Put path content_type b durability metadata moment) (each body)
  command_twice (MakeDirectory path moment) = refl
  command_twice (Link path source moment) = refl
  command_twice (Delete path moment) = refl
  command_twice (NewJob document moment) = refl
  command_twice (AddInputs job lines moment) = refl
  command_twice (EndInput job moment) = refl
  command_twice (Commit job phase place fate moment) = ap (λ x. Commit job phase place x moment) (fate_twice fate)
  command_twice (Finish job moment) = refl
  command_twice (Cancel job moment) = refl
  command_twice (Close job cancelled archive moment) = ap (λ a. Close job cancelled a moment) (archive_twice archive)
  command_twice (NewUpload path content_type moment) = refl
  command_twice (PutPart upload index body moment) = ap (λ b. PutPart upload index b moment) (each body)
  command_twice (CommitUpload upload parts body moment) = ap (λ b. CommitUpload upload parts b moment) (each body)
  command_twice (AbortUpload upload moment) = refl

-- ---- commands apart from digests

-- the same command over other bodies is of the same kind
pub kind_with : {A B : Type 0} (f : A → B) (c : Command A) → kind_of (command_with f c) ≡ kind_of c
kind_with f (Put path content_type body durability metadata moment) = refl
kind_with f (MakeDirectory path moment) = refl
kind_with f (Link path source moment) = refl
kind_with f (Delete path moment) = refl
kind_with f (NewJob document moment) = refl
kind_with f (AddInputs job lines moment) = refl
kind_with f (EndInput job moment) = refl
kind_with f (Commit job phase place fate moment) = refl
kind_with f (Finish job moment) = refl
kind_with f (Cancel job moment) = refl
kind_with f (Close job cancelled archive moment) = refl
kind_with f (NewUpload path content_type moment) = refl
kind_with f (PutPart upload index body moment) = refl
kind_with f (CommitUpload upload parts body moment) = refl
kind_with f (AbortUpload upload moment) = refl

-- a refusal looks at no body that the command brings
pub allowed_apart : (size : Body → ℕ) (s : State Body) (c : Command Body) → allowed size s (undigested c) ≡ allowed size s c
unfolding allowed
allowed_apart size s (Put path content_type body durability metadata moment) = refl
allowed_apart size s (MakeDirectory path moment) = refl
allowed_apart size s (Link path source moment) = refl
allowed_apart size s (Delete path moment) = refl
allowed_apart size s (NewJob document moment) = refl
allowed_apart size s (AddInputs job lines moment) = refl
allowed_apart size s (EndInput job moment) = refl
allowed_apart size s (Commit job phase place fate moment) = refl
allowed_apart size s (Finish job moment) = refl
allowed_apart size s (Cancel job moment) = refl
allowed_apart size s (Close job cancelled archive moment) = refl
allowed_apart size s (NewUpload path content_type moment) = refl
allowed_apart size s (PutPart upload index body moment) = refl
allowed_apart size s (CommitUpload upload parts body moment) = refl
allowed_apart size s (AbortUpload upload moment) = refl

-- the same fields of a body but its digest
body_fits : (b : Body) → FitsBody true b → FitsBody true (undigested_body b)
body_fits b is = record { placed = is.placed; first = is.first; len = is.len }

body_fits_back : (b : Body) → FitsBody true (undigested_body b) → FitsBody true b
body_fits_back b is = record { placed = is.placed; first = is.first; len = is.len }

record_fits : (r : TaskRecord Body) → FitsRecord true r → FitsRecord true (record_with undigested_body r)
record_fits (Emit place reducer body) is = (is.0, is.1, body_fits body is.2)
record_fits (Keep place body) is = (is.0, body_fits body is.1)
record_fits (Ref name) is = is

record_fits_back : (r : TaskRecord Body) → FitsRecord true (record_with undigested_body r) → FitsRecord true r
record_fits_back (Emit place reducer body) is = (is.0, is.1, body_fits_back body is.2)
record_fits_back (Keep place body) is = (is.0, body_fits_back body is.1)
record_fits_back (Ref name) is = is

records_fit : (rs : List (TaskRecord Body)) → AllByRecursion (FitsRecord true) rs → AllByRecursion (FitsRecord true) (map (record_with undigested_body) rs)
records_fit [] is = tt
records_fit (r ∷ rs) is = (record_fits r is.0, records_fit rs is.1)

records_fit_back : (rs : List (TaskRecord Body)) → AllByRecursion (FitsRecord true) (map (record_with undigested_body) rs) → AllByRecursion (FitsRecord true) rs
records_fit_back [] is = tt
records_fit_back (r ∷ rs) is = (record_fits_back r is.0, records_fit_back rs is.1)

fate_fits : (x : Fate Body) → FitsFate true x → FitsFate true (fate_with undigested_body x)
fate_fits (Good records) is = (subst (λ n. n ≤ MOST_RECORDS) (sym (length-map records (record_with undigested_body))) is.0, records_fit records is.1)
fate_fits (Bad failure status stderr) is = is

fate_fits_back : (x : Fate Body) → FitsFate true (fate_with undigested_body x) → FitsFate true x
fate_fits_back (Good records) is = (subst (λ n. n ≤ MOST_RECORDS) (length-map records (record_with undigested_body)) is.0, records_fit_back records is.1)
fate_fits_back (Bad failure status stderr) is = is

fields_fit : (c : Command Body) → FitsFields true c → FitsFields true (undigested c)
fields_fit (Put path content_type body durability metadata moment) is = record { path = is.path; content_type = is.content_type; body = body_fits body is.body; durability = is.durability; metadata = is.metadata }
fields_fit (MakeDirectory path moment) is = is
fields_fit (Link path source moment) is = is
fields_fit (Delete path moment) is = is
fields_fit (NewJob document moment) is = is
fields_fit (AddInputs job lines moment) is = is
fields_fit (EndInput job moment) is = is
fields_fit (Commit job phase place fate moment) is = (is.0, is.1, fate_fits fate is.2)
fields_fit (Finish job moment) is = is
fields_fit (Cancel job moment) is = is
fields_fit (Close job cancelled a moment) is =
    (is.0, record { err = body_fits a.err is.1.err; fail = body_fits a.fail is.1.fail; input = body_fits a.input is.1.input; status = body_fits a.status is.1.status; out = body_fits a.out is.1.out })
fields_fit (NewUpload path content_type moment) is = is
fields_fit (PutPart upload index body moment) is = (is.0, is.1, body_fits body is.2)
fields_fit (CommitUpload upload parts body moment) is = (is.0, is.1, is.2, body_fits body is.3)
fields_fit (AbortUpload upload moment) is = is

fields_fit_back : (c : Command Body) → FitsFields true (undigested c) → FitsFields true c
fields_fit_back (Put path content_type body durability metadata moment) is = record { path = is.path; content_type = is.content_type; body = body_fits_back body is.body; durability = is.durability; metadata = is.metadata }
fields_fit_back (MakeDirectory path moment) is = is
fields_fit_back (Link path source moment) is = is
fields_fit_back (Delete path moment) is = is
fields_fit_back (NewJob document moment) is = is
fields_fit_back (AddInputs job lines moment) is = is
fields_fit_back (EndInput job moment) is = is
fields_fit_back (Commit job phase place fate moment) is = (is.0, is.1, fate_fits_back fate is.2)
fields_fit_back (Finish job moment) is = is
fields_fit_back (Cancel job moment) is = is
fields_fit_back (Close job cancelled a moment) is =
    (is.0, record { err = body_fits_back a.err is.1.err; fail = body_fits_back a.fail is.1.fail; input = body_fits_back a.input is.1.input; status = body_fits_back a.status is.1.status; out = body_fits_back a.out is.1.out })
fields_fit_back (NewUpload path content_type moment) is = is
fields_fit_back (PutPart upload index body moment) is = (is.0, is.1, body_fits_back body is.2)
fields_fit_back (CommitUpload upload parts body moment) is = (is.0, is.1, is.2, body_fits_back body is.3)
fields_fit_back (AbortUpload upload moment) is = is

moment_with : (f : Body → Body) (c : Command Body) → moment_of (command_with f c) ≡ moment_of c
moment_with f (Put path content_type body durability metadata moment) = refl
moment_with f (MakeDirectory path moment) = refl
moment_with f (Link path source moment) = refl
moment_with f (Delete path moment) = refl
moment_with f (NewJob document moment) = refl
moment_with f (AddInputs job lines moment) = refl
moment_with f (EndInput job moment) = refl
moment_with f (Commit job phase place fate moment) = refl
moment_with f (Finish job moment) = refl
moment_with f (Cancel job moment) = refl
moment_with f (Close job cancelled archive moment) = refl
moment_with f (NewUpload path content_type moment) = refl
moment_with f (PutPart upload index body moment) = refl
moment_with f (CommitUpload upload parts body moment) = refl
moment_with f (AbortUpload upload moment) = refl

pub plain_fits : (c : Command Body) → HasSpelling c → HasSpelling (undigested c)
plain_fits c is = record { moment = subst (λ n. IsTrue (is_moment n)) (sym (moment_with undigested_body c)) is.moment; fields = fields_fit c is.fields }

fits_back : (c : Command Body) → HasSpelling (undigested c) → HasSpelling c
fits_back c is = record { moment = subst (λ n. IsTrue (is_moment n)) (moment_with undigested_body c) is.moment; fields = fields_fit_back c is.fields }

-- digests are dropped once
pub plain_twice : (c : Command Body) → undigested (undigested c) ≡ undigested c
plain_twice c = command_twice undigested_body undigested_body undigested_body (λ b. refl) c

-- ---- commands that are the same but for their digests

module _ (c d : Command Body) (same : undigested d ≡ undigested c) where
  pub kind_apart : kind_of d ≡ kind_of c
  kind_apart = sym (kind_with undigested_body d) ∙ ap kind_of same ∙ kind_with undigested_body c

  pub fits_apart : HasSpelling c → HasSpelling d
  fits_apart is = fits_back d (subst HasSpelling (sym same) (plain_fits c is))

  pub spelled_apart : spelling d ≡ spelling c
  spelled_apart = sym (digests_apart d) ∙ ap spelling same ∙ digests_apart c

  pub free_apart : (size : Body → ℕ) (s : State Body) → allowed size s d ≡ allowed size s c
  free_apart size s = sym (allowed_apart size s d) ∙ ap (allowed size s) same ∙ allowed_apart size s c

  module _ (ps qs : List (List ℕ)) where
    -- the pieces of its bodies stand there
    pieces_apart : OfCommand (λ b. is_stored ps b ≡ true) c → OfCommand (λ b. is_stored ps b ≡ true) d
    unfolding is_stored
    pieces_apart is =
        of_from undigested_body (λ b. is_stored ps b ≡ true) (λ b. is_stored ps b ≡ true) (λ b x. x) d
        (subst (OfCommand (λ b. is_stored ps b ≡ true)) (sym same) (of_with undigested_body (λ b. is_stored ps b ≡ true) (λ b. is_stored ps b ≡ true) (λ b x. x) c is))

    -- and where they do, they have their bytes in the front of a longer log
    pub stored_apart : OfCommand (λ b. is_stored ps b ≡ true) c → OfCommand (IsStored (ps ++ qs)) d → OfCommand (IsStored ps) d
    stored_apart pieces is =
        of_both (λ b. is_stored ps b ≡ true) (IsStored (ps ++ qs)) (IsStored ps)
        (λ b there whole. record { pieces = there; digest = whole.digest ∙ ap md5 (same_bytes ps qs b there) }) d (pieces_apart pieces) is

-- ---- records that get their digests one after the other

module _ (rs was : List (TaskRecord Body)) (same : map (record_with undigested_body) rs ≡ map (record_with undigested_body) was) where
  -- the pieces of their bodies stand where they stood
  pub records_apart : (ps : List (List ℕ)) → AllByRecursion (OfRecord (λ b. is_stored ps b ≡ true)) was → AllByRecursion (OfRecord (λ b. is_stored ps b ≡ true)) rs
  unfolding is_stored
  records_apart ps is =
      records_from_all undigested_body (λ b. is_stored ps b ≡ true) (λ b. is_stored ps b ≡ true) (λ b x. x) rs
      (subst (AllByRecursion (OfRecord (λ b. is_stored ps b ≡ true))) (sym same) (records_with_all undigested_body (λ b. is_stored ps b ≡ true) (λ b. is_stored ps b ≡ true) (λ b x. x) was is))

  pub as_many : length rs ≡ length was
  as_many = sym (length-map rs (record_with undigested_body)) ∙ ap length same ∙ length-map was (record_with undigested_body)

-- what holds of those in front holds with the next one
pub set_more : {X : Type 0} (P : X → Type 0) (xs : List X) (n : ℕ) (x : X) → n < length xs → AllByRecursion P (take n xs) → P x → AllByRecursion P (take (n + 1) (set xs n x))
set_more P xs n x within all is = subst (AllByRecursion P) (sym (take_more_set xs n x within)) (one_behind (take n xs) all)
  where
    one_behind : (ys : List _) → AllByRecursion P ys → AllByRecursion P (ys ++ x ∷ [])
    one_behind [] all = (is, tt)
    one_behind (y ∷ ys) all = (all.0, one_behind ys all.1)
