use Rattle.request_text.proofs.Rereading.{read_again}
use Rattle.request_text.proofs.laws.requests_are_read_again.Goals as goal

pub returns : goal.returns
returns c = read_again c.what_is_written_is_read_again.ensures
