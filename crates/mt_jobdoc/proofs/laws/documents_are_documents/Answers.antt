use Rattle.mt_jobdoc.proofs.Documents.{document-document}
use Rattle.mt_jobdoc.proofs.laws.documents_are_documents.Goals as goal

pub returns : goal.returns
returns c = document-document
