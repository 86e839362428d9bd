-- What is one of a list.
pub use Rattle.sim_engine.specs.Members.{In}
