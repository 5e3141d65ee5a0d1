use Rattle.std.proofs.Common.{◌≡◌, ap, sym, ◌∙◌, refl, Bool, true, false, nat_lt, length, Ok, Err, if◌then◌else◌}
use Rattle.lat_model.specs.sessions.Session.{put_open, take_open, unframed}
use Rattle.lat_stream.specs.Kept.{stream_of}
use Rattle.lat_stream.specs.declared.calls.SessionFault.TheVariants as faults
use Rattle.lat_session.specs.Calls.{answer_of, is_taken, after, without_bytes}
use Rattle.lat_session.specs.declared.call.SessionCall.TheVariants.{Set, Attend, Close}
use Rattle.lat_session.proofs.Results.{done_or_closed, done_or_refused}
use Rattle.lat_session.proofs.calls.call_on.Goals as goal

done_answer : (a b : Bool) → without_bytes (if a then (if b then Ok tt else Err faults.Full) else Err faults.Closed) ≡ (if a then (if b then Ok 0 else Err faults.Full) else Err faults.Closed)
done_answer true true = refl
done_answer true false = refl
done_answer false b = refl

pub returns-in-Put-clause-answer : goal.returns-in-Put-clause-answer
returns-in-Put-clause-answer c = λ m ceiling s good is. c.put.ensures.answer m ceiling s good is ∙ ap (answer_of s) (sym c.in-Put.is)

pub returns-in-Put-clause-state : goal.returns-in-Put-clause-state
returns-in-Put-clause-state c = λ m ceiling s good is.
    c.put.ensures.state m ceiling s good is
    ∙ ap (λ z. if is_taken s z then stream_of m ceiling (after s z) else c.args.session.now) (sym c.in-Put.is)

pub returns-in-Set-clause-answer : goal.returns-in-Set-clause-answer
returns-in-Set-clause-answer c = λ m ceiling s good is.
    c.without_bytes.ensures ∙ ap without_bytes (c.set.ensures.answer m ceiling s good is)
    ∙ done_answer (put_open s) (nat_lt (length (unframed s)) 4096) ∙ ap (answer_of s) (sym c.in-Set.is)

pub returns-in-Set-clause-state : goal.returns-in-Set-clause-state
returns-in-Set-clause-state c = λ m ceiling s good is.
    done_or_refused (put_open s) (nat_lt (length (unframed s)) 4096) c.set.result c.set.new.self (stream_of m ceiling (after s (Set c.in-Set.setting))) c.args.session.now
    (c.set.ensures.answer m ceiling s good is) (c.set.ensures.state m ceiling s good is) c.set.ensures.err
    ∙ ap (λ z. if is_taken s z then stream_of m ceiling (after s z) else c.args.session.now) (sym c.in-Set.is)

pub returns-in-Attend-clause-answer : goal.returns-in-Attend-clause-answer
returns-in-Attend-clause-answer c = λ m ceiling s good is.
    c.without_bytes-in-Attend.ensures ∙ ap without_bytes (c.attend.ensures.answer m ceiling s good is)
    ∙ done_answer (put_open s) true ∙ ap (answer_of s) (sym c.in-Attend.is)

pub returns-in-Attend-clause-state : goal.returns-in-Attend-clause-state
returns-in-Attend-clause-state c = λ m ceiling s good is.
    done_or_closed (put_open s) c.attend.result c.attend.new.self (stream_of m ceiling (after s (Attend c.in-Attend.flag))) c.args.session.now
    (c.attend.ensures.answer m ceiling s good is) (c.attend.ensures.state m ceiling s is) c.attend.ensures.err
    ∙ ap (λ z. if is_taken s z then stream_of m ceiling (after s z) else c.args.session.now) (sym c.in-Attend.is)

pub returns-in-Close-clause-answer : goal.returns-in-Close-clause-answer
returns-in-Close-clause-answer c = λ m ceiling s good is.
    c.without_bytes-in-Close.ensures ∙ ap without_bytes (c.close.ensures.answer m ceiling s good is)
    ∙ done_answer (take_open s) true ∙ ap (answer_of s) (sym c.in-Close.is)

pub returns-in-Close-clause-state : goal.returns-in-Close-clause-state
returns-in-Close-clause-state c = λ m ceiling s good is.
    done_or_closed (take_open s) c.close.result c.close.new.self (stream_of m ceiling (after s Close)) c.args.session.now
    (c.close.ensures.answer m ceiling s good is) (c.close.ensures.state m ceiling s good is) c.close.ensures.err
    ∙ ap (λ z. if is_taken s z then stream_of m ceiling (after s z) else c.args.session.now) (sym c.in-Close.is)
