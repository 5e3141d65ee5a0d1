-- Stations are told apart by their addresses as numbers.
pub use Rattle.lat_dir.proofs.Addresses.{IsStation, address_one, address_same}
