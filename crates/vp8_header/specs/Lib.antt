-- What the contracts cite beside the definition: the header's tree in three stages, and a whole header with the state after it.
pub mod Stages
pub mod Headed
