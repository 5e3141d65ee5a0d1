-- Frames that go out one behind another, and those that notices go out in.
use Rattle.std.proofs.Common.{◌≡◌, ℕ, List, [], ◌∷◌, ◌++◌, map, sym, ap, ◌∙◌, append_assoc}
use Rattle.std.proofs.lemmas.List.{map-append, append-nil}
use Rattle.lat_base.specs.declared.addr.Addr.{Addr}
use Rattle.lat_base.specs.declared.outbox.OutFrame.{OutFrame}
use Rattle.lat_base.specs.declared.outbox.Mark.TheVariants as marks
use Rattle.lat_model.proofs.numbers.Net.{each_append}
use Rattle.lat_fields.specs.Payloads.{padded}
use Rattle.lat_notices.specs.declared.notice.Notice.{Notice}
use Rattle.lat_notices.specs.Texts.{notice_text, IsWritable}
use Rattle.lat_machines.specs.values.Addresses.{address}
use Rattle.lat_machines.specs.values.Frames as machines
use Rattle.lat_payload.specs.Notices.{notice_shown}
use Rattle.lat_circuit.specs.Frames.{FrameView, frame_view}
use Rattle.lat_payload.specs.Frames.{expected, IsReadable, GoesOutAs, Emits}
use Rattle.lat_payload.proofs.Notices.{notice_back}
use Rattle.lat_payload.proofs.Readable.{notice_readable}

-- no frame
pub adds_none : (xs : List OutFrame) → Emits [] xs xs
adds_none xs = record { same = sym (append-nil (map frame_view xs)); readable = tt }

-- frames, and then others
pub adds_then : (fs gs : List machines.OutFrame) (xs ys zs : List OutFrame) → Emits fs xs ys → Emits gs ys zs → Emits (fs ++ gs) xs zs
adds_then fs gs xs ys zs one two = record {
  same = two.same ∙ ap (λ before. before ++ map expected gs) one.same ∙ append_assoc (map frame_view xs) (map expected fs) (map expected gs) ∙ ap (λ more. map frame_view xs ++ more) (sym (map-append expected fs gs));
  readable = each_append IsReadable fs gs one.readable two.readable;
}

-- one frame
pub adds_one : (g : machines.OutFrame) (f : OutFrame) (xs : List OutFrame) → GoesOutAs f g → Emits (g ∷ []) xs (xs ++ f ∷ [])
adds_one g f xs goes = record {
  same = map-append frame_view xs (f ∷ []) ∙ ap (λ s. map frame_view xs ++ s ∷ []) goes.same;
  readable = (goes.readable, tt);
}

-- a frame of no circuit, as it goes out
abbrev plain_seen : Addr → List ℕ → FrameView
plain_seen to payload = record { to = address to.0; circuit = 0; mark = marks.Plain; payload = payload }

-- a frame with a notice is that of the machines' notice
pub notice_goes_out : (to : Addr) (n : Notice) (payload : List ℕ) → IsWritable n → payload ≡ padded (notice_text n)
    → GoesOutAs (record { to = to; payload = payload; circuit = 0; mark = marks.Plain }) (machines.plain (address to.0) 0 (machines.OfNotice (notice_shown n)))
notice_goes_out to n payload w is = record {
  same = ap (plain_seen to) (is ∙ ap (λ m. padded (notice_text m)) (sym (notice_back n)));
  readable = notice_readable n w;
}
