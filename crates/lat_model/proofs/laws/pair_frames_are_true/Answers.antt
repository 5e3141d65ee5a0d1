use Rattle.lat_model.proofs.circuits.Streams.{reached_ok, frame_of}
use Rattle.lat_model.proofs.laws.pair_frames_are_true.Goals as goal

pub returns : goal.returns
returns c = λ w i b ask m f r e. frame_of w (reached_ok w r) i b m ask f e
