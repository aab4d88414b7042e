use Rattle.jobs_rows.proofs.words.simple_document.Goals as goal

pub returns-in-Ok : goal.returns-in-Ok
returns-in-Ok c = c.documents_are_documents.ensures _ _ _ c.in-Ok.ensures.exact
