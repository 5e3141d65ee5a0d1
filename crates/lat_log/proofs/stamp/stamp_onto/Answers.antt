use Rattle.std.proofs.Common.{◌++◌, ◌%◌, ◌∙◌, ap, refl, string_bytes}
use Rattle.std.proofs.lemmas.List.{append_assoc}
use Rattle.std.proofs.lemmas.Result.{on_ok_weaker}
use Rattle.jiff.specs.Words.{iso_datetime_text}
use Rattle.lat_log.specs.Stamps.{thousandths}
use Rattle.lat_log.proofs.stamp.stamp_onto.Goals as goal

pub returns : goal.returns
returns c = on_ok_weaker c.thousandths_onto.result
    (λ e. record {
      stamp = iso_datetime_text c.civil-civil.result ++ thousandths (c.args.ms % 1000);
      is = record { second = c.civil-civil.result; is = c.civil-civil.ensures; text_is = refl };
      added = e ∙ (ap (λ t. t ++ thousandths (c.args.ms % 1000)) c.in_ok-write.ensures.bytes ∙ append_assoc (string_bytes c.args.text.now) (iso_datetime_text c.civil-civil.result) (thousandths (c.args.ms % 1000)));
    })
    c.thousandths_onto.ensures
