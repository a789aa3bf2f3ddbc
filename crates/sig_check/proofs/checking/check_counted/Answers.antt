use Rattle.std.proofs.Common.{◌≡◌, length}
use Rattle.sig_record.specs.RunRecord.{events_listed}
use Rattle.sig_players.specs.Players.{crew_of}
use Rattle.sig_choices.specs.Following.{HasFollowed}
use Rattle.sig_check.proofs.CheckLemmas.{opened_emptied, opened_followed, no_after, yes_end, no_end, Went, went_so, Ended, whole_went, part_went, good_end, bad_end}
use Rattle.sig_check.proofs.checking.check_counted.Goals as goal

pub follow-requires-clause-ready : goal.follow-requires-clause-ready
follow-requires-clause-ready g c = c.in_ok-players.ensures.ready

pub follow-requires-clause-empty : goal.follow-requires-clause-empty
follow-requires-clause-empty g c = opened_emptied c.args.script.now (crew_of c.in_ok-players.players.items) c.in_ok-players.ensures.opened

pub returns-then-not-whole : goal.returns-then-not-whole
returns-then-not-whole g c =
    let script = c.args.script.now in
    let first = crew_of c.in_ok-players.players.items in
    let crew = crew_of c.follow.new.players.items in
    let way = c.in_ok-way.way in
    let went : Went script c.args.given.now c.in_ok-order.order crew way.whole way.made =
    went_so script c.reports-reports.result.now c.args.given.now c.as_slice.result.now c.in_ok-order.order crew way.whole way.made c.reports-reports.ensures.reports c.as_slice.ensures
    (c.in_ok-way.ensures.followed script (opened_followed script first c.in_ok-players.ensures.opened c.in_ok-players.ensures.lawful)) in
    no_after script c.args.given.now c.in_ok-order.order c.in_ok-order.ensures first c.in_ok-players.ensures.lawful way.made
    (part_went script c.args.given.now c.in_ok-order.order crew way.whole way.made c.if-not-whole.true went)

pub returns-then-so : goal.returns-then-so
returns-then-so g c =
    let script = c.args.script.now in
    let first = crew_of c.in_ok-players.players.items in
    let crew = crew_of c.follow.new.players.items in
    let way = c.in_ok-way.way in
    let went : Went script c.args.given.now c.in_ok-order.order crew way.whole way.made =
    went_so script c.reports-reports.result.now c.args.given.now c.as_slice.result.now c.in_ok-order.order crew way.whole way.made c.reports-reports.ensures.reports c.as_slice.ensures
    (c.in_ok-way.ensures.followed script (opened_followed script first c.in_ok-players.ensures.opened c.in_ok-players.ensures.lawful)) in
    let all : HasFollowed script (events_listed c.args.given.now c.in_ok-order.order) crew × (way.made ≡ length (events_listed c.args.given.now c.in_ok-order.order)) =
    whole_went script c.args.given.now c.in_ok-order.order crew way.whole way.made c.if-not-whole.false went in
    let ended : Ended c.args.given.now crew c.in_ok-so.so = c.in_ok-so.ensures script all.0.lawful in
    yes_end script c.args.given.now c.in_ok-order.order c.in_ok-order.ensures crew all.0 (c.in_ok-way.ensures.empty c.if-not-whole.false) (good_end c.args.given.now crew c.in_ok-so.so c.if-so.true ended)

pub returns : goal.returns
returns g c =
    let script = c.args.script.now in
    let first = crew_of c.in_ok-players.players.items in
    let crew = crew_of c.follow.new.players.items in
    let way = c.in_ok-way.way in
    let went : Went script c.args.given.now c.in_ok-order.order crew way.whole way.made =
    went_so script c.reports-reports.result.now c.args.given.now c.as_slice.result.now c.in_ok-order.order crew way.whole way.made c.reports-reports.ensures.reports c.as_slice.ensures
    (c.in_ok-way.ensures.followed script (opened_followed script first c.in_ok-players.ensures.opened c.in_ok-players.ensures.lawful)) in
    let all : HasFollowed script (events_listed c.args.given.now c.in_ok-order.order) crew × (way.made ≡ length (events_listed c.args.given.now c.in_ok-order.order)) =
    whole_went script c.args.given.now c.in_ok-order.order crew way.whole way.made c.if-not-whole.false went in
    let ended : Ended c.args.given.now crew c.in_ok-so.so = c.in_ok-so.ensures script all.0.lawful in
    no_end script c.args.given.now c.in_ok-order.order c.in_ok-order.ensures crew all.0 (c.in_ok-way.ensures.empty c.if-not-whole.false) way.made all.1 c.if-made-ge-LAST_STAMP.false
    (bad_end c.args.given.now crew c.in_ok-so.so c.if-so.false ended)
