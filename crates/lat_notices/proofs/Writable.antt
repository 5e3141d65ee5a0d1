-- Notices that can be written.
use Rattle.std.proofs.Common.{◌≡◌, ◌+◌, ◌*◌, ◌≤◌, ℕ, List, [], ◌∷◌, ◌++◌, length, refl, ap, arith, length-append}
use Rattle.std.specs.List.{flat_map, AllByRecursion, sum_by}
use Rattle.std.proofs.lemmas.List.Sums.{sum_by-cons}
use Rattle.lat_base.specs.Names.{IsName}
use Rattle.lat_fields.specs.Texts.{counted}
use Rattle.lat_notices.specs.declared.services.Service.{Service}
use Rattle.lat_notices.specs.declared.notice.Notice.{Notice}
use Rattle.lat_notices.specs.declared.notice.Notice.TheVariants as notices
use Rattle.lat_notices.specs.Kinds.{bits_of}
use Rattle.lat_notices.specs.Services.{HasName, service_text}
use Rattle.lat_notices.specs.Texts.{HasNames, Fits, fields_text, type_of, NoticeText, notice_text, IsWritable}
use Rattle.lat_notices.specs.Writing.{name_len, service_len, fields_len, CanBeWritten}

-- lengths where the names are names

name_len_is : (name : List ℕ) → IsName name → name_len name ≡ length name
name_len_is name is = omega (arith, is.most)

service_len_is : (s : Service) → HasName s → service_len s ≡ length (service_text s)
service_len_is s named = omega (arith, length-append (counted s.name) (counted s.description), name_len_is s.name named)

pub services_len_is : (ss : List Service) → AllByRecursion HasName ss → sum_by service_len ss ≡ length (flat_map service_text ss)
services_len_is [] named = refl
services_len_is (s ∷ ss) named =
    omega (arith, sum_by-cons service_len s ss, length-append (service_text s) (flat_map service_text ss), service_len_is s named.0, services_len_is ss named.1)

pub fields_len_is : (n : Notice) → HasNames n → fields_len n ≡ length (fields_text n)
fields_len_is (notices.Announcement a) names =
    let services = length a.services ∷ flat_map service_text a.services in
    let described = counted a.description ++ services in
    omega (
      arith,
      length-append (counted a.groups) (counted a.node ++ described),
      length-append (counted a.node) described,
      length-append (counted a.description) services,
      name_len_is a.node names.0,
      services_len_is a.services names.1,
    )
fields_len_is (notices.Command c) names = omega (arith, length-append (counted c.node) (counted c.service), name_len_is c.node names.0, name_len_is c.service names.1)
fields_len_is (notices.Status s) names = omega (arith, name_len_is s.node names)
fields_len_is (notices.Solicit s) names = omega (arith, length-append (counted s.asker) (counted s.service), name_len_is s.asker names.0, name_len_is s.service names.1)
fields_len_is (notices.Response r) names =
    let ends = r.rating ∷ r.timer ∷ [] in
    omega (
      arith,
      length-append (counted r.node) (counted r.service ++ ends),
      length-append (counted r.service) ends,
      name_len_is r.node names.0,
      name_len_is r.service names.1,
    )

-- the written text is one
pub written : (n : Notice) → Fits n → NoticeText n (notice_text n)
written n fits = record { fits = fits; low = 0; low_bits = omega arith; is = let none : bits_of (type_of n) * 4 ≡ bits_of (type_of n) * 4 + 0 = omega arith in ap (λ k. k ∷ fields_text n) none }

-- each text of a notice has the same length
pub text_len : (n : Notice) → IsWritable n → 1 + length (fields_text n) ≤ 1500
text_len n w = omega (arith, ap length w.of.is, w.size)

-- what can be written has a text, since its names are names
pub writable : (n : Notice) → HasNames n → CanBeWritten n → IsWritable n
writable n names can = record {
  text = notice_text n;
  of = written n (record { names = names; suits = can.suits });
  size = omega (arith, fields_len_is n names, can.size);
}

-- what has a text can be written
pub can_be_written : (n : Notice) → IsWritable n → CanBeWritten n
can_be_written n w = record { suits = w.of.fits.suits; size = omega (arith, fields_len_is n w.of.fits.names, text_len n w) }
