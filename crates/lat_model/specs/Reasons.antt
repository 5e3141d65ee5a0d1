-- Why ends of circuits and of sessions end or turn away by themselves, as STOPs and slots number it.
use Rattle.std.specs.Prelude.{ℕ}

-- of a circuit: its peer broke a rule, it had no session for long, its peer didn't answer, and there is nothing to make it of
abbrev pub broken : ℕ
broken = 2

abbrev pub no_use : ℕ
no_use = 3

-- of a circuit, too: its end was halted
abbrev pub halted : ℕ
halted = 3

-- no such circuit lives here
abbrev pub no_circuit : ℕ
no_circuit = 5

abbrev pub no_answer : ℕ
no_answer = 6

abbrev pub no_resources : ℕ
no_resources = 7

-- of a session that is rejected: the service isn't offered, no request of the node's was for it, and no id or line is free
abbrev pub not_offered : ℕ
not_offered = 4

abbrev pub not_requested : ℕ
not_requested = 5

abbrev pub no_room : ℕ
no_room = 7

-- of a session that its user closed
abbrev pub closed : ℕ
closed = 1
