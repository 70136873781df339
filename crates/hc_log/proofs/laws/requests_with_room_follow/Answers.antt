use Rattle.hc_log.proofs.Rooms.{requests_with_room_follow}
use Rattle.hc_log.proofs.laws.requests_with_room_follow.Goals as goal

pub returns : goal.returns
returns c = requests_with_room_follow
