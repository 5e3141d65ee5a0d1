use Rattle.std.proofs.Common.{refl}
use Rattle.lat_cmd.specs.declared.command.Command.TheVariants.{Show, Choose, Replay, Capture, Settle, Audit, Pcap, Trace, Draw, Gen, Bench}
use Rattle.lat_cmd.proofs.Forming.{answers_as, lawful_as, no_law}
use Rattle.lat_cmd.proofs.Keeping.{befores_as, no_before}
use Rattle.lat_cmd.proofs.generate.Rereads.{gen_replayed}
use Rattle.lat_cmd.proofs.answer.answered.Goals as goal

pub returns-in-Show-clause-answer : goal.returns-in-Show-clause-answer
returns-in-Show-clause-answer g c = answers_as c.args.command Show c.args.input.now c.shown.result c.in-Show.is c.shown.ensures.answer

pub returns-in-Show-clause-law : goal.returns-in-Show-clause-law
returns-in-Show-clause-law g c = no_law c.args.command Show c.args.input.now c.shown.result c.in-Show.is tt

pub returns-in-Choose-clause-answer : goal.returns-in-Choose-clause-answer
returns-in-Choose-clause-answer g c = answers_as c.args.command Choose c.args.input.now c.chosen.result c.in-Choose.is c.chosen.ensures.answer

pub returns-in-Choose-clause-law : goal.returns-in-Choose-clause-law
returns-in-Choose-clause-law g c = no_law c.args.command Choose c.args.input.now c.chosen.result c.in-Choose.is tt

pub returns-in-Replay-clause-answer : goal.returns-in-Replay-clause-answer
returns-in-Replay-clause-answer g c = answers_as c.args.command Replay c.args.input.now c.replay.result c.in-Replay.is c.replay.ensures.answer

pub returns-in-Replay-clause-law : goal.returns-in-Replay-clause-law
returns-in-Replay-clause-law g c = no_law c.args.command Replay c.args.input.now c.replay.result c.in-Replay.is tt

pub returns-in-Capture-clause-answer : goal.returns-in-Capture-clause-answer
returns-in-Capture-clause-answer g c =
    answers_as c.args.command (Capture c.in-Capture.circuit) c.args.input.now c.capture.result c.in-Capture.is c.capture.ensures.answer

pub returns-in-Capture-clause-law : goal.returns-in-Capture-clause-law
returns-in-Capture-clause-law g c =
    lawful_as c.args.command (Capture c.in-Capture.circuit) c.args.input.now c.capture.result c.in-Capture.is c.capture.ensures.legal

pub returns-in-Settle-clause-answer : goal.returns-in-Settle-clause-answer
returns-in-Settle-clause-answer g c =
    answers_as c.args.command (Settle c.in-Settle.rounds) c.args.input.now c.settle.result c.in-Settle.is c.settle.ensures.answer

pub returns-in-Settle-clause-law : goal.returns-in-Settle-clause-law
returns-in-Settle-clause-law g c = lawful_as c.args.command (Settle c.in-Settle.rounds) c.args.input.now c.settle.result c.in-Settle.is c.settle.ensures.all

pub returns-in-Audit-clause-answer : goal.returns-in-Audit-clause-answer
returns-in-Audit-clause-answer g c = answers_as c.args.command Audit c.args.input.now c.audited.result c.in-Audit.is c.audited.ensures.answer

pub returns-in-Audit-clause-law : goal.returns-in-Audit-clause-law
returns-in-Audit-clause-law g c = no_law c.args.command Audit c.args.input.now c.audited.result c.in-Audit.is tt

pub returns-in-Pcap-clause-answer : goal.returns-in-Pcap-clause-answer
returns-in-Pcap-clause-answer g c = answers_as c.args.command Pcap c.args.input.now c.dumped.result c.in-Pcap.is c.dumped.ensures.answer

pub returns-in-Pcap-clause-law : goal.returns-in-Pcap-clause-law
returns-in-Pcap-clause-law g c = no_law c.args.command Pcap c.args.input.now c.dumped.result c.in-Pcap.is tt

pub returns-in-Trace-clause-answer : goal.returns-in-Trace-clause-answer
returns-in-Trace-clause-answer g c = answers_as c.args.command Trace c.args.input.now c.traced.result c.in-Trace.is c.traced.ensures.answer

pub returns-in-Trace-clause-law : goal.returns-in-Trace-clause-law
returns-in-Trace-clause-law g c = no_law c.args.command Trace c.args.input.now c.traced.result c.in-Trace.is tt

pub returns-in-Draw-clause-answer : goal.returns-in-Draw-clause-answer
returns-in-Draw-clause-answer g c = answers_as c.args.command Draw c.args.input.now c.drawn.result c.in-Draw.is c.drawn.ensures.answer

pub returns-in-Draw-clause-law : goal.returns-in-Draw-clause-law
returns-in-Draw-clause-law g c = no_law c.args.command Draw c.args.input.now c.drawn.result c.in-Draw.is tt

pub returns-in-Gen-clause-answer : goal.returns-in-Gen-clause-answer
returns-in-Gen-clause-answer g c = answers_as c.args.command (Gen c.in-Gen.seed) c.args.input.now c.made.result c.in-Gen.is c.made.ensures.answer

pub returns-in-Gen-clause-law : goal.returns-in-Gen-clause-law
returns-in-Gen-clause-law g c = no_law c.args.command (Gen c.in-Gen.seed) c.args.input.now c.made.result c.in-Gen.is (gen_replayed c.in-Gen.seed)

pub returns-in-Bench-clause-answer : goal.returns-in-Bench-clause-answer
returns-in-Bench-clause-answer g c = answers_as c.args.command (Bench c.in-Bench.seed) c.args.input.now c.measured.result c.in-Bench.is c.measured.ensures.answer

pub returns-in-Bench-clause-law : goal.returns-in-Bench-clause-law
returns-in-Bench-clause-law g c = no_law c.args.command (Bench c.in-Bench.seed) c.args.input.now c.measured.result c.in-Bench.is tt

pub returns-in-Show-clause-before : goal.returns-in-Show-clause-before
returns-in-Show-clause-before g c = no_before c.args.command Show c.args.input.now c.shown.result c.in-Show.is refl c.shown.ensures.before

pub returns-in-Choose-clause-before : goal.returns-in-Choose-clause-before
returns-in-Choose-clause-before g c = no_before c.args.command Choose c.args.input.now c.chosen.result c.in-Choose.is refl c.chosen.ensures.before

pub returns-in-Replay-clause-before : goal.returns-in-Replay-clause-before
returns-in-Replay-clause-before g c = befores_as c.args.command Replay c.args.input.now c.replay.result c.in-Replay.is c.replay.ensures.before

pub returns-in-Capture-clause-before : goal.returns-in-Capture-clause-before
returns-in-Capture-clause-before g c = befores_as c.args.command (Capture c.in-Capture.circuit) c.args.input.now c.capture.result c.in-Capture.is c.capture.ensures.before

pub returns-in-Settle-clause-before : goal.returns-in-Settle-clause-before
returns-in-Settle-clause-before g c = befores_as c.args.command (Settle c.in-Settle.rounds) c.args.input.now c.settle.result c.in-Settle.is c.settle.ensures.before

pub returns-in-Audit-clause-before : goal.returns-in-Audit-clause-before
returns-in-Audit-clause-before g c = no_before c.args.command Audit c.args.input.now c.audited.result c.in-Audit.is refl c.audited.ensures.before

pub returns-in-Pcap-clause-before : goal.returns-in-Pcap-clause-before
returns-in-Pcap-clause-before g c = no_before c.args.command Pcap c.args.input.now c.dumped.result c.in-Pcap.is refl c.dumped.ensures.before

pub returns-in-Trace-clause-before : goal.returns-in-Trace-clause-before
returns-in-Trace-clause-before g c = no_before c.args.command Trace c.args.input.now c.traced.result c.in-Trace.is refl c.traced.ensures.before

pub returns-in-Draw-clause-before : goal.returns-in-Draw-clause-before
returns-in-Draw-clause-before g c = no_before c.args.command Draw c.args.input.now c.drawn.result c.in-Draw.is refl c.drawn.ensures.before

pub returns-in-Gen-clause-before : goal.returns-in-Gen-clause-before
returns-in-Gen-clause-before g c = no_before c.args.command (Gen c.in-Gen.seed) c.args.input.now c.made.result c.in-Gen.is refl c.made.ensures.before

pub returns-in-Bench-clause-before : goal.returns-in-Bench-clause-before
returns-in-Bench-clause-before g c = no_before c.args.command (Bench c.in-Bench.seed) c.args.input.now c.measured.result c.in-Bench.is refl c.measured.ensures.before
