-- What laws say of looks, turns and rounds.
use Rattle.world_merge.specs.Posts.{PostsTellTheRest}
use Rattle.round_rules.specs.{Gaps.{LimitsAreLogs, PostsStillFollow}, Looks.{KnownHaveBegun, LooksStand, LooksTell}, FleetOneWorker.{LooksGoOn, LooksHadBegun, NodesGoOn, RoundsBegin, RoundsEnd, StationsArePlaced}, Rounding.TurnsMakeARound}

pub record RoundLaws : Type 0 where
  pub stands : LooksStand
  pub tells : LooksTell
  pub begun : KnownHaveBegun
  pub had_begun : LooksHadBegun
  pub round : TurnsMakeARound
  pub limits : LimitsAreLogs
  pub follow : PostsStillFollow
  pub posts : PostsTellTheRest
  pub begins : RoundsBegin
  pub placed : StationsArePlaced
  pub node : NodesGoOn
  pub looks : LooksGoOn
  pub ends : RoundsEnd
