-- The first fault of a phase, and what is passed on.
use Rattle.std.proofs.Common.{◌≡◌, ◌≢◌, ℕ, Bool, List, refl, Option, Some, None, Result, Ok, Err}
use Rattle.serde_json.specs.Data.{Data}
use Rattle.mt_path.specs.AccountPath.{AccountPath}
use Rattle.mt_types.specs.declared.document.PhaseKind.{PhaseKind}
use Rattle.mt_types.specs.declared.document.Phase.{Phase}
use Rattle.mt_jobdoc.specs.declared.error.InvalidJob.{InvalidJob}
use Rattle.mt_jobdoc.specs.declared.error.InvalidJob.TheVariants.{NotJson, NoPhases, TooManyPhases, BadPhase, BadCount, Memory}
use Rattle.mt_jobdoc.specs.Document.{IsUnlessMemory, reduces_in, exec_in, init_in, assets_in, kind_in, phase_of, phases_of, listed, name_in, object_of, document_in, document_of}
use Rattle.mt_types.specs.declared.document.JobDocument.{JobDocument}

-- an error of a call is handed on
pub passed_on : {A B : Type 0} (a : Result A InvalidJob) (b : Result B InvalidJob) (e : InvalidJob) → IsUnlessMemory a (Err e) → (a ≡ Err e → b ≡ Err e) → IsUnlessMemory b (Err e)
passed_on a b NotJson h next = next h
passed_on a b NoPhases h next = next h
passed_on a b TooManyPhases h next = next h
passed_on a b (BadPhase k) h next = next h
passed_on a b (BadCount k) h next = next h
passed_on a b Memory h next = tt

pub unless : {B : Type 0} (b : Result B InvalidJob) (e : InvalidJob) → b ≡ Err e → IsUnlessMemory b (Err e)
unless b NotJson h = h
unless b NoPhases h = h
unless b TooManyPhases h = h
unless b (BadPhase k) h = h
unless b (BadCount k) h = h
unless b Memory h = tt

module _ (login : List ℕ) (k : ℕ) (d : Data) where
  pub no_type : reduces_in d ≡ None → phase_of login k d ≡ Err (BadPhase k)
  unfolding phase_of
  no_type none = rw none refl

  pub no_exec : (r : Bool) → reduces_in d ≡ Some r → exec_in d ≡ None → phase_of login k d ≡ Err (BadPhase k)
  unfolding phase_of
  no_exec r is none = rw (is, none) refl

  pub no_init : (r : Bool) (exec : List ℕ) → reduces_in d ≡ Some r → exec_in d ≡ Some exec → init_in d ≡ None → phase_of login k d ≡ Err (BadPhase k)
  unfolding phase_of
  no_init r exec is command none = rw (is, command, none) refl

  pub no_assets : (r : Bool) (exec : List ℕ) (init : Option (List ℕ)) → reduces_in d ≡ Some r → exec_in d ≡ Some exec → init_in d ≡ Some init → assets_in login d ≡ None → phase_of login k d ≡ Err (BadPhase k)
  unfolding phase_of
  no_assets r exec init is command before none = rw (is, command, before, none) refl

  module _ (r : Bool) (exec : List ℕ) (init : Option (List ℕ)) (assets : List AccountPath)
      (is : reduces_in d ≡ Some r) (command : exec_in d ≡ Some exec) (before : init_in d ≡ Some init) (named : assets_in login d ≡ Some assets) where
    pub no_kind : (e : InvalidJob) → kind_in k r d ≡ Err e → phase_of login k d ≡ Err e
    unfolding phase_of
    no_kind e fault = rw (is, command, before, named, fault) refl

    pub a_phase : (kind : PhaseKind) → kind_in k r d ≡ Ok kind → phase_of login k d ≡ Ok (record { kind = kind; exec = exec; init = init; assets = assets })
    unfolding phase_of
    a_phase kind fine = rw (is, command, before, named, fine) refl

-- ---- a document

pub a_document : (login : List ℕ) (d : Data) (ds : List Data) (phases : List Phase) (name : List ℕ) → listed d ≡ Ok ds → phases_of login 0 ds ≡ Ok phases → name ≡ name_in d
    → document_in login d ≡ Ok (record { name = name; phases = phases })
unfolding document_in
a_document login d ds phases name list each is = rw (list, each, is) refl

pub faulty_phases : (login : List ℕ) (d : Data) (ds : List Data) (e : InvalidJob) → listed d ≡ Ok ds → phases_of login 0 ds ≡ Err e → document_in login d ≡ Err e
unfolding document_in
faulty_phases login d ds e list fault = rw (list, fault) refl

pub no_phases : (login : List ℕ) (d : Data) (e : InvalidJob) → listed d ≡ Err e → document_in login d ≡ Err e
unfolding document_in
no_phases login d e fault = rw fault refl

-- the document of bytes is that of the object that they are
pub of_object : (login bytes : List ℕ) (d : Data) (r : Result JobDocument InvalidJob) → object_of bytes ≡ Ok d → IsUnlessMemory (document_in login d) r → IsUnlessMemory (document_of login bytes) r
unfolding document_of
of_object login bytes d r is h = rw is h

pub no_object : (login bytes : List ℕ) (e : InvalidJob) → (e ≢ Memory → object_of bytes ≡ Err e) → IsUnlessMemory (document_of login bytes) (Err e)
unfolding document_of
no_object login bytes NotJson h = rw (h (λ is. cc)) refl
no_object login bytes NoPhases h = rw (h (λ is. cc)) refl
no_object login bytes TooManyPhases h = rw (h (λ is. cc)) refl
no_object login bytes (BadPhase k) h = rw (h (λ is. cc)) refl
no_object login bytes (BadCount k) h = rw (h (λ is. cc)) refl
no_object login bytes Memory h = tt
