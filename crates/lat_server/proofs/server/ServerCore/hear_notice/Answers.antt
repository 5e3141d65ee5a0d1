use Rattle.std.proofs.Common.{sym, subst}
use Rattle.lat_base.specs.declared.answer.Answer.{Answer}
use Rattle.lat_notices.specs.declared.notice.Notice.{Notice}
use Rattle.lat_machines.specs.values.Addresses.{address}
use Rattle.lat_machines.specs.cores.Cores.{at_moment}
use Rattle.lat_machines.specs.server.Server.{with_core, hears_announcement, hears_notice}
use Rattle.lat_dir.specs.Announcements.{announcement_shown}
use Rattle.lat_payload.specs.Notices.{notice_shown}
use Rattle.lat_server.specs.Kept.{config_of}
use Rattle.lat_server.specs.Events.{HasDone, Simulates}
use Rattle.lat_server.proofs.Hearing.{if_ok}
use Rattle.lat_server.proofs.server.ServerCore.hear_notice.Goals as goal

pub returns-in-Announcement-clause-does : goal.returns-in-Announcement-clause-does
returns-in-Announcement-clause-does c =
    let x = address c.args.from.0 in
    if_ok c.hear_announcement.result (λ (a : Answer). Simulates (λ config s. hears_announcement config (with_core s (at_moment c.args.now s.core)) x (announcement_shown c.in-Announcement.a)) c.args.self.now c.hear_announcement.new.self a c.args.out.now c.args.out.now)
    (λ (a : Answer). Simulates (λ config s. hears_notice config (with_core s (at_moment c.args.now s.core)) x (notice_shown c.args.notice.now)) c.args.self.now c.hear_announcement.new.self a c.args.out.now c.args.out.now)
    (λ a does s st. subst (λ (n : Notice). HasDone s (hears_notice (config_of c.args.self.now) (with_core s (at_moment c.args.now s.core)) x (notice_shown n)) c.hear_announcement.new.self a c.args.out.now c.args.out.now) (sym c.in-Announcement.is) (does s st))
    (c.hear_announcement.ensures.does c.args.out.now)

pub returns-in-Response-clause-does : goal.returns-in-Response-clause-does
returns-in-Response-clause-does c = λ s st. subst (λ (n : Notice). HasDone s (hears_notice (config_of c.args.self.now) (with_core s (at_moment c.args.now s.core)) (address c.args.from.0) (notice_shown n)) c.pass_over.new.self c.pass_over.result c.args.out.now c.args.out.now) (sym c.in-Response.is) (c.pass_over.ensures.does c.args.out.now s st)

pub returns-in-Status-clause-does : goal.returns-in-Status-clause-does
returns-in-Status-clause-does c = λ s st. subst (λ (n : Notice). HasDone s (hears_notice (config_of c.args.self.now) (with_core s (at_moment c.args.now s.core)) (address c.args.from.0) (notice_shown n)) c.pass_over-in-Status.new.self c.pass_over-in-Status.result c.args.out.now c.args.out.now) (sym c.in-Status.is) (c.pass_over-in-Status.ensures.does c.args.out.now s st)

pub returns-in-Solicit-clause-does : goal.returns-in-Solicit-clause-does
returns-in-Solicit-clause-does c = λ s st. subst (λ (n : Notice). HasDone s (hears_notice (config_of c.args.self.now) (with_core s (at_moment c.args.now s.core)) (address c.args.from.0) (notice_shown n)) c.pass_over-in-Solicit.new.self c.pass_over-in-Solicit.result c.args.out.now c.args.out.now) (sym c.in-Solicit.is) (c.pass_over-in-Solicit.ensures.does c.args.out.now s st)
