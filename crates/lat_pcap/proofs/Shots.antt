-- What is written is read.
use Rattle.std.proofs.Common.{◌≡◌, ◌+◌, List, [], ◌∷◌, ◌++◌, length, map, Some, None, refl, sym, ap, length-append, arith, inl}
use Rattle.std.specs.List.{flat_map, AllByRecursion}
use Rattle.lat_pcap.specs.declared.head.Order.TheVariants.{Little}
use Rattle.lat_pcap.specs.declared.head.Precision.TheVariants.{Micro}
use Rattle.lat_pcap.specs.declared.head.Head.{Head}
use Rattle.lat_pcap.specs.Texts.{IsRaw, frame_in}
use Rattle.lat_pcap.specs.Held.{contents, contents_of}
use Rattle.lat_pcap.specs.Written.{written_head}
use Rattle.lat_pcap.specs.Files.{held, records_text}
use Rattle.lat_pcap.specs.Laws.{Shot, IsShot, shot_raw, shot_text, shot_frame}
use Rattle.lat_pcap.proofs.Ours.{frame_taken}
use Rattle.lat_pcap.proofs.Files.{is_read}

shot_taken : (s : Shot) → IsShot s → frame_in Micro (shot_raw s) ≡ Some (shot_frame s)
shot_taken s h = frame_taken Micro (shot_raw s) (shot_frame s) (record { seconds = refl; nanos_are = refl; to = h.to; from = h.from; is = refl })

shot_fits : (s : Shot) → IsShot s → IsRaw Micro (shot_raw s)
shot_fits s h =
    let mark = 96 ∷ 4 ∷ s.payload in
    let len : length (s.to ++ (s.from ++ mark)) ≡ length s.payload + 14 = omega (arith, length-append s.to (s.from ++ mark), length-append s.from mark, h.to, h.from) in
    record {
      seconds = omega (arith, h.moment);
      fraction = omega arith;
      whole = omega (arith, h.payload);
      included = omega (arith, len, h.payload);
    }

shots_fit : (ss : List Shot) → AllByRecursion IsShot ss → AllByRecursion (IsRaw Micro) (map shot_raw ss)
shots_fit [] h = tt
shots_fit (s ∷ ss) h = (shot_fits s h.0, shots_fit ss h.1)

shots_held : (ss : List Shot) → AllByRecursion IsShot ss → held Micro (map shot_raw ss) None ≡ contents (map shot_frame ss) 0 None
shots_held [] h = refl
shots_held (s ∷ ss) h = rw (shot_taken s h.0, shots_held ss h.1) refl

abbrev head : Head
head = record { order = Little; precision = Micro }

shots_text : (ss : List Shot) → flat_map shot_text ss ≡ records_text head (map shot_raw ss)
shots_text [] = refl
shots_text (s ∷ ss) = ap (λ t. shot_text s ++ t) (shots_text ss)

pub shots_read : (ss : List Shot) → AllByRecursion IsShot ss → contents_of (written_head ++ flat_map shot_text ss) ≡ contents (map shot_frame ss) 0 None
shots_read ss h =
    is_read (written_head ++ flat_map shot_text ss) (contents (map shot_frame ss) 0 None) (inl (record {
      head = head;
      rest = record { zone = 0; accuracy = 0; snap = 65535 };
      rest_fits = record { zone = omega arith; accuracy = omega arith; snap = omega arith };
      records = map shot_raw ss;
      records_fit = shots_fit ss h;
      is = ap (λ t. written_head ++ t) (shots_text ss);
      holds = sym (shots_held ss h);
    }))
