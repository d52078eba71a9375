use Rattle.request_text.proofs.LinePlaces.{places}
use Rattle.request_text.proofs.laws.lines_keep_their_places.Goals as goal

pub returns : goal.returns
returns c = places
