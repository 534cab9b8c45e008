-- What a walk of a commit comes to in a turn.
use Rattle.std.specs.Prelude.{◌≡◌, ◌≢◌, ◌⊎◌, ℕ, ◌<◌, MatchOption, Option, None, Some}
use Rattle.joint_walk.specs.Calls.{Feeds, Settles, Starts, waiting_job}
use Rattle.joint_walk.specs.Walks.{WalkValue}
use Rattle.joint_walk.specs.declared.settled.Settled.{Settled}
use Rattle.joint_walk.specs.declared.settled.Settled.TheVariants.{NoPair, ByOffer, ByWalk}
use Rattle.page_codec.specs.Values.{PageValue, VersionValue}
use Rattle.page_codec.specs.declared.why.Why.TheVariants.{Base}
use Rattle.page_merge.specs.Jobs.{JobValue}
use Rattle.pool_draft.specs.Sets.{picked_of}
use Rattle.session.specs.Safe.{drafts_of, object_of, root_of, serial_of, view_of}
use Rattle.session.specs.Values.{one_more}
use Rattle.session.specs.declared.course.Course.{Course}
use Rattle.session.specs.declared.stage.Stage.TheVariants.{Walking}
use Rattle.session.specs.declared.turned.Fault.TheVariants.{Bad}
use Rattle.session.specs.declared.turned.Turned.{Turned}
use Rattle.session.specs.declared.turned.Turned.TheVariants.{Again, Work, Stopped}

-- The client has its one draft, on the same version and with as many steps.
pub record IsSameDraft (s s' : Course) : Type 0 where
  pub one : drafts_of s' ≡ 1
  pub picked : picked_of s'.drafts ≡ 0
  pub root : root_of s' ≡ root_of s
  pub object : object_of s' ≡ object_of s
  pub serial : serial_of s' ≡ serial_of s
  pub count : s'.drafts.count ≡ s.drafts.count

-- The two pages of the walk that waited to be merged are merged, where there were any.
pub record HasSettled (walk more : WalkValue) (s s' : Course) : Type 0 where
  pub settles : Settles walk (view_of s) more (view_of s')
  pub none : waiting_job more ≡ None
  pub same : IsSameDraft s s'
  pub only : s' ≡ record s { drafts = s'.drafts }

-- How many pairs of pages a client merged itself, with one that was merged so.
abbrev pub counted_by : Settled → ℕ → ℕ
counted_by NoPair merges = merges
counted_by ByOffer merges = merges
counted_by ByWalk merges = one_more merges

-- Of the pages that wait to be merged, if any do, the client counts those that it merges itself: it
-- takes what is offered exactly where that is their outcome.
abbrev pub CountsMerge : Option JobValue → Option JobValue → ℕ → ℕ → Type 0
CountsMerge None offer merges merges' = merges' ≡ merges
CountsMerge (Some job) offer merges merges' =
    (offer ≡ Some job → merges' ≡ merges) × (offer ≢ Some job → merges' ≡ one_more merges)

-- The walk is kept, and the turn tells the pages of it that wait to be merged.
pub record GoesFurther (walk : WalkValue) (s s' : Course) (result : Turned) : Type 0 where
  pub only : s' ≡ record s { stage = Walking walk; turns = one_more s.turns }
  pub answer : MatchOption (waiting_job walk) (result ≡ Again) (λ job. result ≡ Work job)

-- The walk was fed this page, and is kept.
pub record HasTaken (walk : WalkValue) (page : PageValue) (s s' : Course)
    (result : Turned) : Type 0 where
  pub more : WalkValue
  pub feeds : Feeds walk (view_of s) page more (view_of s')
  pub same : IsSameDraft s s'
  pub only : s' ≡ record s { drafts = s'.drafts; stage = Walking more; turns = one_more s.turns }
  pub answer : MatchOption (waiting_job more) (result ≡ Again) (λ job. result ≡ Work job)

-- The draft has this version as its base, and a walk over it began.
pub record HasBegun (next : ℕ) (version : VersionValue) (s s' : Course)
    (result : Turned) : Type 0 where
  pub walk : WalkValue
  pub starts : Starts (view_of s) (view_of s') next version.page version.root walk
  pub drafts : drafts_of s' ≡ 1
  pub picked : picked_of s'.drafts ≡ 0
  pub root : root_of s' ≡ next
  pub object : object_of s' ≡ object_of s
  pub serial : serial_of s' ≡ version.serial
  pub count : s'.drafts.count ≡ s.drafts.count
  pub only : s' ≡ record s { drafts = s'.drafts; stage = Walking walk; turns = one_more s.turns }
  pub answer : MatchOption (waiting_job walk) (result ≡ Again) (λ job. result ≡ Work job)

-- The version does not follow the draft's base.
pub record FollowsNot (next : ℕ) (version : VersionValue) (s s' : Course)
    (result : Turned) : Type 0 where
  pub same : s' ≡ s
  pub answer : result ≡ Stopped (Bad next Base)
  pub why : version.base ≡ Some (root_of s) → 0 < next → 0 < s.drafts.count → ⊥

abbrev pub BeginsWalk : ℕ → VersionValue → Course → Course → Turned → Type 0
BeginsWalk next version s s' result =
    HasBegun next version s s' result ⊎ FollowsNot next version s s' result
