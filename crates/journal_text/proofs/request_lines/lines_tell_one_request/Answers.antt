use Rattle.journal_text.proofs.OneRequest.{one_request}
use Rattle.journal_text.proofs.request_lines.lines_tell_one_request.Goals as goal

pub returns : goal.returns
returns c = one_request
